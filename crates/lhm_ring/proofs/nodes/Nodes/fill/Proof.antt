-- `fill` writes over what one node holds, or over uninitialised memory. Assumes `Logic`.
use Rattle.lhm_ring.proofs.Names.{ !, IsAt, List, Ptr, Some, Val, [], addr, alloc_all, ap, assigns, body_owns, by, cell, closes, feq_i}
use Rattle.lhm_ring.proofs.Names.{fjoin, fjoin3, fld, free_all, froom, fsplit, fsplit3, full_share, get, get_in, id⊢, init, inst_fn, is}
use Rattle.lhm_ring.proofs.Names.{join, keep, layout, look_at, move, no, of_opd, opens, owns, part_at, pass_all, ptr_val, refl, returns}
use Rattle.lhm_ring.proofs.Names.{rewrite, sets, split, stop, sub, sym, tables, through, types_at, unit_lit, use1, use2, vptr, vunit}
use Rattle.lhm_ring.proofs.Names.{whole, word, word-Good, yes, ‵, ℕ, ◌$◌, ◌++◌, ◌+◌, ◌∙◌, ◌∷◌, ◌⊛◌}
use Rattle.lhm_ring.proofs.memory.NodeFields.{Cells, Land, Node, Nr, Pl, RK, RL, RV, Three, alone, args, body_uninit, ko, three_rows}
use Rattle.lhm_ring.proofs.memory.NodeFields.{value_in, vo, word-pointer}
use Rattle.lhm_ring.proofs.memory.NodeTaken.{changed_at, node_glue, node_opens}
use Rattle.lhm_ring.proofs.memory.Steps.{gone, kept, known, lives, runs_at, self_left, unblocks, unblocks_more, walks, with_facts, ◌&◌}
use Rattle.lhm_ring.proofs.{nodes.Nodes.fill.Statement.statement, rings.Lookup.Cut, rings.Lookup.Cut-links_at}
use denote.Param.Laws.{param_laws}
use Rattle.lhm_ring.specs.contracts.nodes.Nodes.fill.{clauses, ended, Key.name as #self}
use Rattle.lhm_ring.proofs.nodes.Nodes.fill.Code as code

pub fill_spec : {M : Type 1} → statement M
fill_spec 𝓤 𝓛 𝓜 𝓡 wired L K V LL LK LV =
    let H = 𝓛.H in let 𝓣 = tables 𝓤 H 𝓜 𝓡 𝓡.env in let E : Three = three_rows LL LK LV in
    let N = Nr E in let R = RL E in let S = RK E in let W = RV E in
    let En = ended L K V in let c = clauses L K V 𝓛 𝓜.mem 𝓡.returns in let fn = inst_fn (args E) code.function in
    walks 𝓛 En c 𝓡 (kept 𝓛 4 tt (λ _. N) & gone 𝓛 4 Pl yes (λ κs x f. refl) & gone 𝓛 4 S no (λ κs x f. refl)
    & gone 𝓛 4 W no (λ κs x f. refl) & tt) (#self (args E)) fn
    (code.unfolded 𝓤 H 𝓜 𝓡 wired (L, (K, (V, tt)))) (λ κs qs _ a vss _ are Post leave.
    let rb : ℕ = a.0.ref_ptr.0 in let ro : ℕ = a.0.ref_ptr.1 in let h : N.Denot = a.0.now in let p : Ptr = a.1.0.ptr in
    let new : K.Denot = a.1.1.0 in
    let got = alone (layout K) vss.1.1.0 (((param_laws 1 K LK).lawful 𝓛).typed new vss.1.1.0 are.1.1.0) in let v : Val = got.0 in
    let val : V.Denot = a.1.1.1.0 in
    let had = alone (layout V) vss.1.1.1.0 (((param_laws 2 V LV).lawful 𝓛).typed val vss.1.1.1.0 are.1.1.1.0) in let w : Val = had.0 in
    known 𝓛 (lives 3 κs qs) (owns (types_at En.signature.params κs) a vss) (_ ∷ _ ∷ _ ∷ IsAt h.cells p ∷ []) (λ told.
    fsplit3 ! $ fsplit3 ! $ move ! (4 ∷ []) $ fsplit3 ! $ keep ! (4 ∷ 5 ∷ 7 ∷ 0 ∷ 1 ∷ 8 ∷ []) $
    rewrite ! 3 (λ (ws : List Val). ‵ (S.own_val new ws)) got.1.0 refl $
    rewrite ! 4 (λ (ws : List Val). ‵ (W.own_val val ws)) had.1.0 refl $
    runs_at ! fn (vptr rb ro ∷ word p ∷ v ∷ w ∷ [])
    (λ i. are.0.0 i ++ (word-pointer a.1.0 vss.1.0 are.1.0 i ++ (got.1.0 i ++ (had.1.0 i ++ [])))) $
    alloc_all ! (λ l. pass_all ! refl ((tt, tt), (word-Good [] p, (got.1.1, (had.1.1, tt)))) $
    let there = told.1.1.1.0 in let k : Cut h.cells p = Cut-links_at h.cells p there.0 there.1 in
    let f' : Node E → Node E = λ c. cell c.at c.links (Some (new, val)) in let h' : N.Denot = changed_at h p f' (λ c. refl) in
    opens ! tt N {h = h} rb ro (λ vs. move ! (1 ∷ []) $ fsplit ! $ move ! (1 ∷ []) $
    node_opens ! E (Land E h) k (λ pb po e. rewrite ! 0 (λ (q : Ptr). ‵ (body_owns R S W q k.split.node.body)) e refl $
    use1 𝓛 (‵ (froom (layout K) pb (po + ko E)) ⊛ ‵ (froom (layout V) pb (po + vo E))) (body_uninit 𝓛 E pb po k.split.node.body) $ split ! $
    -- [the key's memory; the value's; the deed; the links; the other nodes; the marker; its cell;
    -- the open borrow, in three; the new key; the new value; the other tokens]
    sets ! (is ! (of_opd ! (get_in ! (fld ! refl (stop !)) (sub ! 0 refl (whole !)))) (ap ptr_val (sym k.split.at_is ∙ e))) refl (tt, tt) $
    unblocks_more ! $ sets ! (addr ! (through ! refl (fld ! refl (stop !)))) refl (tt, tt) $
    unblocks_more ! $ sets ! (of_opd ! (get ! refl)) refl got.1.1 $
    unblocks_more ! $ assigns ! (of_opd ! (get ! refl)) (through ! refl (stop !)) (init ! 0 refl got.1.1) $ move ! (1 ∷ []) $
    unblocks_more ! $ sets ! (addr ! (through ! refl (fld ! refl (stop !)))) refl (tt, tt) $
    unblocks_more ! $ sets ! (of_opd ! (get ! refl)) refl had.1.1 $
    unblocks ! $ assigns ! (of_opd ! (get ! refl)) (through ! refl (stop !)) (init ! 0 refl had.1.1) $
    sets ! (of_opd ! (unit_lit !)) refl (tt, tt) $
    move ! (0 ∷ 11 ∷ []) $ use2 𝓛 (‵ (part_at W full_share val pb (po + vo E))) (value_in 2 V LV 𝓛 val pb (po + vo E) w) $
    move ! (1 ∷ 10 ∷ []) $ use2 𝓛 (‵ (part_at S full_share new pb (po + ko E))) (value_in 1 K LK 𝓛 new pb (po + ko E) v) $ fjoin ! $
    rewrite ! 0 (λ (q : Ptr). ‵ (body_owns R S W q (Some (new, val)))) (sym e) refl $ move ! (2 ∷ 0 ∷ 1 ∷ []) $ fjoin3 ! $
    use2 𝓛 (‵ (Cells E (Land E h) h'.cells)) (node_glue 𝓛 E (Land E h) k f') $
    move ! (1 ∷ 0 ∷ []) $ fjoin ! $ move ! (1 ∷ 0 ∷ []) $ closes ! tt N h' vs rb ro $
    self_left ! 3 are.0.0 $ move ! (1 ∷ 2 ∷ []) $ join ! $
    feq_i ! (List Val) (vunit ∷ []) (vunit ∷ []) refl $
    returns ! (look_at ! 0 refl) $ free_all ! refl $ keep ! (1 ∷ 2 ∷ 0 ∷ []) $
    by ! (with_facts 𝓛 (_ ∷ _ ∷ []) (leave vunit tt (h', (tt, (tt, (tt, tt))))) (id⊢ 𝓤 _) (refl, ((refl, refl), tt))))))))
