-- `list_before` lists a node at another place: what is owned is the same. Assumes `Logic`.
use Rattle.lhm_ring.proofs.Names.{ !, IsAt, IsPlaceFor, List, Ptr, Val, [], alloc_all, by, closes, feq_i, fjoin, free_all, fsplit, fsplit3}
use Rattle.lhm_ring.proofs.Names.{id⊢, inst_fn, join, keep, look_at, move, of_opd, opens, owns, pass_all, refl, returns, sets, tables}
use Rattle.lhm_ring.proofs.Names.{types_at, unit_lit, use1, vptr, vunit, word, word-Good, yes, ‵, ℕ, ◌$◌, ◌++◌, ◌∷◌}
use Rattle.lhm_ring.proofs.memory.NodeFields.{Cells, Land, Nr, Pl, RK, RL, RV, Three, args, three_rows, word-pointer}
use Rattle.lhm_ring.proofs.memory.NodeMoved.{AtCell-moved, Place, Place-for, listed_before, moved, nodes_elsewhere, rest}
use Rattle.lhm_ring.proofs.memory.Steps.{gone, kept, known, lives, runs_at, self_left, walks, with_facts, ◌&◌}
use Rattle.lhm_ring.proofs.{nodes.Nodes.list_before.Statement.statement, rings.Lookup.Cut, rings.Lookup.Cut-links_at}
use Rattle.lhm_ring.specs.contracts.nodes.Nodes.list_before.{clauses, ended, Key.name as #self}
use Rattle.lhm_ring.proofs.nodes.Nodes.list_before.Code as code

pub list_before_spec : {M : Type 1} → statement M
list_before_spec 𝓤 𝓛 𝓜 𝓡 wired L K V LL LK LV =
    let H = 𝓛.H in let 𝓣 = tables 𝓤 H 𝓜 𝓡 𝓡.env in let E : Three = three_rows LL LK LV in
    let N = Nr E in let R = RL E in let S = RK E in let W = RV E in
    let En = ended L K V in let c = clauses L K V 𝓛 𝓜.mem 𝓡.returns in let fn = inst_fn (args E) code.function in
    walks 𝓛 En c 𝓡 (kept 𝓛 4 tt (λ _. N) & gone 𝓛 4 Pl yes (λ κs x f. refl) & gone 𝓛 4 Pl yes (λ κs x f. refl) & tt) (#self (args E)) fn
    (code.unfolded 𝓤 H 𝓜 𝓡 wired (L, (K, (V, tt)))) (λ κs qs _ a vss _ are Post leave.
    let rb : ℕ = a.0.ref_ptr.0 in let ro : ℕ = a.0.ref_ptr.1 in let h : N.Denot = a.0.now in let p : Ptr = a.1.0.ptr in
    let q : Ptr = a.1.1.0.ptr in
    known 𝓛 (lives 3 κs qs) (owns (types_at En.signature.params κs) a vss) (_ ∷ _ ∷ _ ∷ IsAt h.cells p ∷ IsPlaceFor h.cells p q ∷ [])
    (λ req.
    let there = req.1.1.1.0 in let free = req.1.1.1.1.0 in fsplit3 ! $ fsplit3 ! $ keep ! (1 ∷ 2 ∷ 5 ∷ 6 ∷ []) $
    -- [self, in two; its token; the other tokens]
    runs_at ! fn (vptr rb ro ∷ word p ∷ word q ∷ [])
    (λ i. are.0.0 i ++ (word-pointer a.1.0 vss.1.0 are.1.0 i ++ (word-pointer a.1.1.0 vss.1.1.0 are.1.1.0 i ++ []))) $
    alloc_all ! (λ l. pass_all ! refl ((tt, tt), (word-Good [] p, (word-Good [] q, tt))) $
    let k : Cut h.cells p = Cut-links_at h.cells p there.0 there.1 in
    let j : Place (rest k) q = Place-for k free in
    let h' : N.Denot = listed_before h k j in
    opens ! tt N {h = h} rb ro (λ vs. move ! (1 ∷ []) $ fsplit ! $ move ! (1 ∷ []) $
    use1 𝓛 (‵ (Cells E (Land E h) (moved h k j))) (nodes_elsewhere 𝓛 E (Land E h) k j) $
    -- [the nodes; the marker; its cell; the open borrow, in three; the other tokens]
    move ! (1 ∷ 0 ∷ []) $ fjoin ! $ move ! (1 ∷ 0 ∷ []) $ closes ! tt N h' vs rb ro $
    sets ! (of_opd ! (unit_lit !)) refl (tt, tt) $
    self_left ! 2 are.0.0 $ move ! (1 ∷ 2 ∷ []) $ join ! $
    feq_i ! (List Val) (vunit ∷ []) (vunit ∷ []) refl $
    returns ! (look_at ! 0 refl) $ free_all ! refl $ keep ! (1 ∷ 2 ∷ 0 ∷ []) $
    by ! (with_facts 𝓛 (_ ∷ _ ∷ []) (leave vunit tt (h', (tt, (tt, tt)))) (id⊢ 𝓤 _)
    ((AtCell-moved k j h.apart h.blocks), ((refl, refl), tt)))))))
