-- `set_links` writes the links of one node. Assumes `Logic`.
use Rattle.lhm_ring.proofs.Names.{ !, IsAt, List, Ptr, Val, [], addr, alloc_all, ap, assigns, by, cell, closes, drop, feq_i, fjoin, fjoin3}
use Rattle.lhm_ring.proofs.Names.{fld, free_all, fsplit, fsplit3, full_share, get, get_in, id⊢, inst_fn, is, join, keep, layout, lies_at}
use Rattle.lhm_ring.proofs.Names.{links_address, look_at, move, no, of_opd, opens, owns, part_at, pass_all, ptr_val, refl, returns}
use Rattle.lhm_ring.proofs.Names.{rewrite, sets, stop, store, sub, sym, tables, through, types_at, unit_lit, use2, vptr, vunit, whole}
use Rattle.lhm_ring.proofs.Names.{word, word-Good, yes, ‵, ℕ, ◌$◌, ◌++◌, ◌+◌, ◌∙◌, ◌∷◌}
use Rattle.lhm_ring.proofs.memory.NodeFields.{Cells, Land, Node, Nr, Pl, RK, RL, RV, Three, alone, args, lo, three_rows, value_in}
use Rattle.lhm_ring.proofs.memory.NodeFields.{value_known, word-pointer}
use Rattle.lhm_ring.proofs.memory.NodeTaken.{changed_at, node_glue, node_opens}
use Rattle.lhm_ring.proofs.memory.Steps.{gone, kept, known, lives, runs_at, self_left, unblocks, unblocks_more, walks, with_facts, ◌&◌}
use Rattle.lhm_ring.proofs.{nodes.Nodes.set_links.Statement.statement, rings.Lookup.Cut, rings.Lookup.Cut-links_at}
use denote.Param.Laws.{param_laws}
use Rattle.lhm_ring.specs.contracts.nodes.Nodes.set_links.{clauses, ended, Key.name as #self}
use Rattle.lhm_ring.proofs.nodes.Nodes.set_links.Code as code

pub set_links_spec : {M : Type 1} → statement M
set_links_spec 𝓤 𝓛 𝓜 𝓡 wired L K V LL LK LV =
    let H = 𝓛.H in let 𝓣 = tables 𝓤 H 𝓜 𝓡 𝓡.env in let E : Three = three_rows LL LK LV in
    let N = Nr E in let R = RL E in let S = RK E in let W = RV E in
    let En = ended L K V in let c = clauses L K V 𝓛 𝓜.mem 𝓡.returns in let fn = inst_fn (args E) code.function in
    walks 𝓛 En c 𝓡 (kept 𝓛 4 tt (λ _. N) & gone 𝓛 4 Pl yes (λ κs x f. refl) & gone 𝓛 4 R no (λ κs x f. refl) & tt) (#self (args E)) fn
    (code.unfolded 𝓤 H 𝓜 𝓡 wired (L, (K, (V, tt)))) (λ κs qs _ a vss _ are Post leave.
    let rb : ℕ = a.0.ref_ptr.0 in let ro : ℕ = a.0.ref_ptr.1 in let h : N.Denot = a.0.now in let p : Ptr = a.1.0.ptr in
    let new : L.Denot = a.1.1.0 in
    let got = alone (layout L) vss.1.1.0 (((param_laws 0 L LL).lawful 𝓛).typed new vss.1.1.0 are.1.1.0) in let v : Val = got.0 in
    known 𝓛 (lives 3 κs qs) (owns (types_at En.signature.params κs) a vss) (_ ∷ _ ∷ _ ∷ IsAt h.cells p ∷ []) (λ told.
    fsplit3 ! $ fsplit3 ! $ move ! (4 ∷ []) $ fsplit ! $ keep ! (3 ∷ 4 ∷ 6 ∷ 0 ∷ 7 ∷ []) $
    rewrite ! 3 (λ (ws : List Val). ‵ (R.own_val new ws)) got.1.0 refl $
    runs_at ! fn (vptr rb ro ∷ word p ∷ v ∷ []) (λ i. are.0.0 i ++ (word-pointer a.1.0 vss.1.0 are.1.0 i ++ (got.1.0 i ++ []))) $
    alloc_all ! (λ l. pass_all ! refl ((tt, tt), (word-Good [] p, (got.1.1, tt))) $
    let there = told.1.1.1.0 in let k : Cut h.cells p = Cut-links_at h.cells p there.0 there.1 in let f : Node E = k.split.node in
    let f' : Node E → Node E = λ c. cell c.at new c.body in let h' : N.Denot = changed_at h p f' (λ c. refl) in
    opens ! tt N {h = h} rb ro (λ vs. move ! (1 ∷ []) $ fsplit ! $ move ! (1 ∷ []) $
    node_opens ! E (Land E h) k (λ pb po e. move ! (2 ∷ []) $
    rewrite ! 0 (λ (q : Ptr). ‵ (lies_at R full_share (links_address R S W q) f.links)) e refl $
    value_known 0 L LL f.links pb (po + lo E) ! (λ u _. move ! (1 ∷ []) $ drop ! $
    -- [the old links; the body; the deed; the other nodes; the marker; its cell; the open borrow, in three; the new links; the
    -- other tokens]
    sets ! (is ! (of_opd ! (get_in ! (fld ! refl (stop !)) (sub ! 0 refl (whole !)))) (ap ptr_val (sym k.split.at_is ∙ e))) refl (tt, tt) $
    unblocks_more ! $ sets ! (addr ! (through ! refl (fld ! refl (stop !)))) refl (tt, tt) $
    unblocks_more ! $ sets ! (of_opd ! (get ! refl)) refl got.1.1 $
    unblocks ! $ assigns ! (of_opd ! (get ! refl)) (through ! refl (stop !)) (store ! 0 refl got.1.1) $
    sets ! (of_opd ! (unit_lit !)) refl (tt, tt) $
    move ! (0 ∷ 9 ∷ []) $ use2 𝓛 (‵ (part_at R full_share new pb (po + lo E))) (value_in 0 L LL 𝓛 new pb (po + lo E) v) $
    rewrite ! 0 (λ (q : Ptr). ‵ (lies_at R full_share (links_address R S W q) new)) (sym e) refl $ fjoin3 ! $
    use2 𝓛 (‵ (Cells E (Land E h) h'.cells)) (node_glue 𝓛 E (Land E h) k f') $
    move ! (1 ∷ 0 ∷ []) $ fjoin ! $ move ! (1 ∷ 0 ∷ []) $ closes ! tt N h' vs rb ro $
    self_left ! 2 are.0.0 $ move ! (1 ∷ 2 ∷ []) $ join ! $
    feq_i ! (List Val) (vunit ∷ []) (vunit ∷ []) refl $
    returns ! (look_at ! 0 refl) $ free_all ! refl $ keep ! (1 ∷ 2 ∷ 0 ∷ []) $
    by ! (with_facts 𝓛 (_ ∷ _ ∷ []) (leave vunit tt (h', (tt, (tt, tt)))) (id⊢ 𝓤 _) (refl, ((refl, refl), tt)))))))))
