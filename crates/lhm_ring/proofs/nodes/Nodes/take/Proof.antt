-- `take` moves out what one node holds, and leaves it uninitialised. Assumes `Logic`.
use Rattle.lhm_ring.proofs.Names.{ !, Holds, None, Option, Ptr, [], addr, agg, alloc_all, and_then, ap, as_fields, body_owns, by, cell}
use Rattle.lhm_ring.proofs.Names.{closes, fjoin, fjoin3, fld, free_all, fsplit, fsplit3, get, get_in, id⊢, inst_fn, is, join, keep, layout}
use Rattle.lhm_ring.proofs.Names.{load, look, look_at, move, no_more, of_opd, opens, owns, pass_all, ptr_val, refl, returns, rewrite, sets}
use Rattle.lhm_ring.proofs.Names.{stop, sub, sym, tables, through, types_at, use2, vcons, vnil, vptr, vstruct, whole, word, word-Good, yes}
use Rattle.lhm_ring.proofs.Names.{‵, ℕ, ◌$◌, ◌++◌, ◌+◌, ◌∙◌, ◌∷◌}
use Rattle.lhm_ring.proofs.memory.NodeFields.{Cells, Land, Node, Nr, Pl, RK, RL, RV, Three, args, forgotten, ko, three_rows, two_made}
use Rattle.lhm_ring.proofs.memory.NodeFields.{value_known, vo, word-pointer}
use Rattle.lhm_ring.proofs.memory.NodeTaken.{changed_at, node_glue, node_opens}
use Rattle.lhm_ring.proofs.memory.Steps.{gone, kept, known, lives, runs_at, self_left, unblocks, unblocks_more, walks, with_facts, ◌&◌}
use Rattle.lhm_ring.proofs.{nodes.Nodes.take.Statement.statement, rings.Lookup.Cut, rings.Lookup.Cut-held, rings.Lookup.held_here}
use Rattle.lhm_ring.specs.contracts.nodes.Nodes.take.{clauses, ended, Key.name as #self}
use Rattle.lhm_ring.proofs.nodes.Nodes.take.Code as code

pub take_spec : {M : Type 1} → statement M
take_spec 𝓤 𝓛 𝓜 𝓡 wired L K V LL LK LV =
    let H = 𝓛.H in let 𝓣 = tables 𝓤 H 𝓜 𝓡 𝓡.env in let E : Three = three_rows LL LK LV in
    let N = Nr E in let R = RL E in let S = RK E in let W = RV E in
    let En = ended L K V in let c = clauses L K V 𝓛 𝓜.mem 𝓡.returns in let fn = inst_fn (args E) code.function in
    walks 𝓛 En c 𝓡 (kept 𝓛 4 tt (λ _. N) & gone 𝓛 4 Pl yes (λ κs x f. refl) & tt) (#self (args E)) fn
    (code.unfolded 𝓤 H 𝓜 𝓡 wired (L, (K, (V, tt)))) (λ κs qs _ a vss _ are Post leave.
    let rb : ℕ = a.0.ref_ptr.0 in let ro : ℕ = a.0.ref_ptr.1 in let h : N.Denot = a.0.now in let p : Ptr = a.1.0.ptr in
    known 𝓛 (lives 3 κs qs) (owns (types_at En.signature.params κs) a vss) (_ ∷ _ ∷ _ ∷ Holds h.cells p ∷ []) (λ told.
    fsplit ! $ fsplit3 ! $ keep ! (1 ∷ 2 ∷ 4 ∷ 5 ∷ []) $
    runs_at ! fn (vptr rb ro ∷ word p ∷ []) (λ i. are.0.0 i ++ (word-pointer a.1.0 vss.1.0 are.1.0 i ++ [])) $
    alloc_all ! (λ l. pass_all ! refl ((tt, tt), (word-Good [] p, tt)) $
    let asked = told.1.1.1.0 in let x = asked.0 in let k : Cut h.cells p = Cut-held h.cells p x asked.1 in
    let f' : Node E → Node E = λ c. cell c.at c.links None in let h' : N.Denot = changed_at h p f' (λ c. refl) in
    opens ! tt N {h = h} rb ro (λ vs. move ! (1 ∷ []) $ fsplit ! $ move ! (1 ∷ []) $
    node_opens ! E (Land E h) k (λ pb po e.
    rewrite ! 0 (λ (z : Ptr × Option (K.Denot × V.Denot)). ‵ (body_owns R S W z.0 z.1)) (λ i. (e i, (held_here k asked.1) i)) refl $
    fsplit ! $ value_known 1 K LK x.0 pb (po + ko E) ! (λ u good. move ! (2 ∷ []) $ value_known 2 V LV x.1 pb (po + vo E) ! (λ w fine.
    -- [the value's cell; what it owns; the key's cell; what it owns; the deed; the links; the other
    -- nodes; the marker; its cell; the open borrow, in three; the other tokens]
    sets ! (is ! (of_opd ! (get_in ! (fld ! refl (stop !)) (sub ! 0 refl (whole !)))) (ap ptr_val (sym k.split.at_is ∙ e))) refl (tt, tt) $
    unblocks_more ! $ sets ! (addr ! (through ! refl (fld ! refl (stop !)))) refl (tt, tt) $
    unblocks ! $ sets ! (of_opd ! (load ! (through ! refl (stop !)) (look ! 2 refl))) refl good $
    sets ! (of_opd ! (get ! refl)) refl good $
    unblocks_more ! $ sets ! (addr ! (through ! refl (fld ! refl (stop !)))) refl (tt, tt) $
    unblocks ! $ sets ! (of_opd ! (load ! (through ! refl (stop !)) (look ! 0 refl))) refl fine $
    sets ! (of_opd ! (get ! refl)) refl fine $ sets ! (of_opd ! (get ! refl)) refl good $ sets ! (of_opd ! (get ! refl)) refl fine $
    sets ! (agg ! (and_then ! (get ! refl) (and_then ! (get ! refl) (no_more !)))) refl
    (as_fields (layout K ∷ layout V ∷ []) (u ∷ w ∷ []) (good, (fine, tt))) $
    forgotten ! (layout V) pb (po + vo E) w $ move ! (2 ∷ []) $ forgotten ! (layout K) pb (po + ko E) u $ fjoin ! $
    -- [the memory of both; what the value owns; what the key owns; the deed; the links; ..]
    rewrite ! 0 (λ (q : Ptr). ‵ (body_owns R S W q None)) (sym e) refl $ move ! (4 ∷ 0 ∷ 3 ∷ []) $ fjoin3 ! $ move ! (0 ∷ 3 ∷ []) $
    use2 𝓛 (‵ (Cells E (Land E h) h'.cells)) (node_glue 𝓛 E (Land E h) k f') $
    -- [the nodes; what the value owns; what the key owns; the marker; its cell; the open borrow, in
    -- three; the other tokens]
    move ! (3 ∷ 0 ∷ []) $ fjoin ! $ move ! (3 ∷ 0 ∷ 4 ∷ 5 ∷ 6 ∷ []) $ closes ! tt N h' vs rb ro $
    self_left ! 1 are.0.0 $ move ! (1 ∷ 4 ∷ []) $ join ! $
    -- [the tokens; self; the value's; the key's]
    move ! (3 ∷ 2 ∷ []) $ two_made ! S W x.0 x.1 u w $
    returns ! (look_at ! 0 refl) $ free_all ! refl $ keep ! (1 ∷ 2 ∷ 0 ∷ []) $
    by ! (with_facts 𝓛 (_ ∷ _ ∷ _ ∷ []) (leave (vstruct (vcons u (vcons w vnil))) x (h', (tt, tt))) (id⊢ 𝓤 _)
    (asked.1, (refl, ((refl, refl), tt)))))))))))
