-- `value_mut` lends the value that one node holds, and the nodes follow it. Assumes `Logic`.
use Rattle.lhm_ring.proofs.Names.{ !, Fml, Holds, IsValue, Lft, List, Logic, MutBor, MutRef, Option, Part, Ptr, Ura, Val, [], addr}
use Rattle.lhm_ring.proofs.Names.{alloc_all, ap, await, block_ptr, body_at, body_owns, by, cell, change, deed_owns, done, ent, fjoin}
use Rattle.lhm_ring.proofs.Names.{fjoin3, fld, flft, follows, fpack, free_all, fsep, fsplit, fsplit3, full_share, get, get_in, group}
use Rattle.lhm_ring.proofs.Names.{holding, id⊢, inst_fn, is, join, keep, key_address, later, lends_Part, lies_at, links_address, look_at}
use Rattle.lhm_ring.proofs.Names.{mem, move, mut_ref_to, named, no, of_opd, opens, owns, part_at, part_of, pass_all, pick, plain, ptr_val}
use Rattle.lhm_ring.proofs.Names.{qed, raw, refl, returns, rewrite, sem, sep, sets, some, split3, stop, sub, sym, tables, through}
use Rattle.lhm_ring.proofs.Names.{types_at, use1, use2, value_address, value_set, vptr, whole, word, word-Good, yes, ‵, ℕ, ◌$◌, ◌++◌, ◌+◌}
use Rattle.lhm_ring.proofs.Names.{◌∙◌, ◌∵◌, ◌∷◌, ◌≡◌, ◌⊛◌}
use Rattle.lhm_ring.proofs.memory.NodeFields.{Cells, Land, Marker, Node, Nr, Pl, RK, RL, RV, Three, args, three_rows, vo, word-pointer}
use Rattle.lhm_ring.proofs.memory.Steps.{all_spent, dropped, gone, known, lives, runs_at, states, unblocks, walks, ◌&◌}
use Rattle.lhm_ring.proofs.rings.Lookup.{Cut, Cut-held, held_here}
use Rattle.lhm_ring.proofs.{memory.NodeTaken.node_glue, memory.NodeTaken.node_opens, nodes.Nodes.value_mut.Statement.statement}
use denote.Memory.{cell_at}
use Rattle.lhm_ring.specs.contracts.nodes.Nodes.value_mut.{clauses, ended, Key.name as #self}
use Rattle.lhm_ring.proofs.nodes.Nodes.value_mut.Code as code

module _ (E : Three) {M : Type 1} {𝓤 : Ura M} (𝓛 : Logic 𝓤) (h : (Nr E).Denot) {p : Ptr}
    (k : Cut h.cells p) (held : Holds h.cells p) (vs : List Val) (rb ro : ℕ) where
  -- all but the value
  abbrev Rest : Fml
  Rest = fsep (lies_at (RL E) full_share (links_address (RL E) (RK E) (RV E) k.split.node.at)
      k.split.node.links) (fsep
      (lies_at (RK E) full_share (key_address (RL E) (RK E) (RV E) k.split.node.at) held.0.0)
      (fsep (deed_owns (RL E) (RK E) (RV E) k.split.node.at)
      (fsep (Cells E (Land E h) (k.split.before ++ k.split.after))
      (fsep ((Marker E).own_val (tt, tt) vs) (cell_at full_share (Nr E).mir vs rb ro)))))

  back : {pb po : ℕ} → k.split.node.at ≡ block_ptr pb po → (w : E.value.Denot)
      → ent 𝓤 (sep 𝓤 (sem 𝓛 ((mem (RV E)).own_at w pb (po + vo E))) (sem 𝓛 Rest))
      (sem 𝓛 ((mem (Nr E)).own_at (holding h p w) rb ro))
  unfolding part_of
  back {pb} {po} e w =
      let f : Node E = k.split.node in let f' : Node E → Node E = λ c. cell c.at c.links (value_set w (body_at h.cells p)) in
      qed 𝓛 (‵ (part_at (RV E) full_share w pb (po + vo E)) ∷ ‵ Rest ∷ []) ∵ rewrite ! 0
      (λ (q : Ptr). ‵ (lies_at (RV E) full_share (value_address (RL E) (RK E) (RV E) q) w))
      (sym e) refl $
      move ! (1 ∷ []) $ fsplit3 ! $ move ! (2 ∷ []) $ fsplit3 ! $ move ! (2 ∷ []) $ fsplit ! $
      -- [the marker; its cell; the deed; the other nodes; the links; the key; the value]
      move ! (5 ∷ 6 ∷ []) $ fjoin ! $ rewrite ! 0 (λ (o : Option (E.key.Denot × E.value.Denot)). ‵
      (body_owns (RL E) (RK E) (RV E) f.at (value_set w o))) (sym held.1) refl $ move ! (0 ∷ 3 ∷ []) $
      fjoin ! $ move ! (4 ∷ 0 ∷ []) $ fjoin ! $ move ! (0 ∷ 3 ∷ []) $
      use2 𝓛 (‵ (Cells E (Land E h) (change p f' h.cells))) (node_glue 𝓛 E (Land E h) k f') $
      move ! (1 ∷ 0 ∷ []) $ fjoin ! $ move ! (1 ∷ 0 ∷ []) $ fjoin ! $ fpack ! (List Val)
      (λ us. fsep (cell_at full_share (Nr E).mir us rb ro) ((Nr E).own_val (holding h p w) us)) vs $
      done !

pub value_mut_spec : {M : Type 1} → statement M
value_mut_spec 𝓤 𝓛 𝓜 𝓡 wired L K V LL LK LV =
    let H = 𝓛.H in let 𝓣 = tables 𝓤 H 𝓜 𝓡 𝓡.env in let E : Three = three_rows LL LK LV in
    let N = Nr E in let R = RL E in let S = RK E in let W = RV E in
    let En = ended L K V in let c = clauses L K V 𝓛 𝓜.mem 𝓡.returns in let fn = inst_fn (args E) code.function in
    let Self = mut_ref_to (0 ∷ []) tt (plain (λ _. N)) in
    walks 𝓛 En c 𝓡 (dropped 𝓛 4 Self no (λ κs x f. refl) & gone 𝓛 4 Pl yes (λ κs x f. refl) & tt) (#self (args E)) fn
    (code.unfolded 𝓤 H 𝓜 𝓡 wired (L, (K, (V, tt)))) (λ κs qs _ a vss _ are Post leave.
    let rb : ℕ = a.0.ref_ptr.0 in let ro : ℕ = a.0.ref_ptr.1 in let h : N.Denot = a.0.now in let p : Ptr = a.1.0.ptr in
    let κ : Lft = κs.0 in let q = qs.0 in let γ = a.0.ghost_name in let hcode = N.coded.code h in
    known 𝓛 (lives 3 κs qs) (owns (types_at En.signature.params κs) a vss) (_ ∷ _ ∷ _ ∷ Holds h.cells p ∷ []) (λ req.
    let asked = req.1.1.1.0 in fsplit ! $ fsplit3 ! $ keep ! (1 ∷ 2 ∷ 4 ∷ 5 ∷ []) $
    runs_at ! fn (vptr rb ro ∷ word p ∷ []) (λ i. are.0.0 i ++ (word-pointer a.1.0 vss.1.0 are.1.0 i ++ [])) $
    alloc_all ! (λ l. pass_all ! refl ((tt, tt), (word-Good [] p, tt)) $
    let x = asked.0 in let k : Cut h.cells p = Cut-held h.cells p x asked.1 in let f : Node E = k.split.node in
    opens ! tt N {h = h} rb ro (λ vs. move ! (1 ∷ []) $ fsplit ! $ move ! (1 ∷ []) $
    node_opens ! E (Land E h) k (λ pb po e.
    rewrite ! 0 (λ (z : Option (K.Denot × V.Denot)). ‵ (body_owns R S W f.at z)) (held_here k asked.1) refl $ fsplit ! $ move ! (1 ∷ []) $
    rewrite ! 0 (λ (q : Ptr). ‵ (lies_at W full_share (value_address R S W q) x.1)) e refl $
    -- [the value; the key; the deed; the links; the other nodes; the marker; its cell; the open
    -- borrow, in three; the other tokens]
    sets ! (is ! (of_opd ! (get_in ! (fld ! refl (stop !)) (sub ! 0 refl (whole !))))
    (ap ptr_val (sym k.split.at_is ∙ e))) refl (tt, tt) $
    unblocks ! $ sets ! (addr ! (through ! refl (fld ! refl (stop !)))) refl (tt, tt) $
    sets ! (of_opd ! (get ! refl)) refl (tt, tt) $
    move ! (4 ∷ 5 ∷ 6 ∷ []) $ fjoin3 ! $ move ! (3 ∷ 0 ∷ []) $ fjoin ! $ move ! (3 ∷ 2 ∷ 0 ∷ []) $
    fjoin3 ! $ move ! (2 ∷ 3 ∷ 4 ∷ 1 ∷ 0 ∷ []) $ group ! 5 $
    let O = sem 𝓛 (Rest E 𝓛 h k asked vs rb ro) in let way = back E 𝓛 h k asked vs rb ro e in
    use1 𝓛 (later (some (λ (δ : ℕ). raw (Part 𝓛 N W (holding h p) (named 0) κ q rb ro pb (po + vo E) γ O way x.1 δ))))
    (lends_Part 𝓛 N W (holding h p) (named 0) κ q rb ro pb (po + vo E) γ O way hcode hcode x.1) $ await ! tt $ pick ! (λ δ.
    let r : Val = vptr pb (po + vo E) in let out : MutBor V.Denot = record { ref_ptr = (pb, po + vo E); ghost_name = δ; now = x.1 } in
    use1 𝓛 (‵ ((MutRef (named 0) κ W).own_val out (r ∷ [])) ⊛ ‵ (flft κ q) ⊛ ‵ (follows N W γ δ (holding h p))) (id⊢ 𝓤 _) $ split3 ! $
    states ! (IsValue x.1 (body_at h.cells p)) (x.0, asked.1) $ move ! (3 ∷ 0 ∷ []) $ join ! $ move ! (2 ∷ 3 ∷ []) $ join ! $
    all_spent ! 2 $
    returns ! (look_at ! 0 refl) $ free_all ! refl $ keep ! (1 ∷ 0 ∷ 3 ∷ 2 ∷ []) $ by ! (leave r out (tt, (tt, tt))).prf))))))
