-- `clear` makes all nodes places: what they hold is forgotten. Assumes `Logic`.
use Rattle.lhm_ring.proofs.Names.{ !, List, Ptr, Val, [], alloc_all, ap, append-nil, by, closes, count_by, emp, fact, feq_i, feq_l, fjoin}
use Rattle.lhm_ring.proofs.Names.{flft, free_all, fsplit, fsplit3, ftrue, id⊢, inst_fn, is_block, join, keep, look_at, move, node_bytes}
use Rattle.lhm_ring.proofs.Names.{of_opd, opens, owns, pass_all, places, pointers, qed, raw, refl, returns, sets, split, tables, true}
use Rattle.lhm_ring.proofs.Names.{types_at, unit_lit, use1, use2, vptr, vunit, ‵, ℕ, ◌$◌, ◌++◌, ◌∵◌, ◌∷◌, ◌≡◌, ◌⊛◌}
use Rattle.lhm_ring.proofs.memory.ChunkPlaces.{Places, cells_emptied, land_cut, places_glue}
use Rattle.lhm_ring.proofs.memory.NodeFields.{Cells, Land, Nr, RK, RL, RV, Three, args, three_rows}
use Rattle.lhm_ring.proofs.memory.PlacesRearranged.{AreBlocks-IsRearranged, places_rearranged}
use Rattle.lhm_ring.proofs.memory.Steps.{kept, runs_at, self_left, tokens, walks, with_facts, ◌&◌}
use Rattle.lhm_ring.proofs.{lists.Apart.IsApart-none, lists.ForAll.AllByRecursion-append, nodes.Nodes.clear.Statement.statement}
use Rattle.lhm_ring.specs.contracts.nodes.Nodes.clear.{clauses, ended, Key.name as #self}
use Rattle.lhm_ring.proofs.nodes.Nodes.clear.Code as code

pub clear_spec : {M : Type 1} → statement M
clear_spec 𝓤 𝓛 𝓜 𝓡 wired L K V LL LK LV =
    let H = 𝓛.H in let 𝓣 = tables 𝓤 H 𝓜 𝓡 𝓡.env in let E : Three = three_rows LL LK LV in
    let N = Nr E in let R = RL E in let S = RK E in let W = RV E in
    let En = ended L K V in let c = clauses L K V 𝓛 𝓜.mem 𝓡.returns in let fn = inst_fn (args E) code.function in
    walks 𝓛 En c 𝓡 (kept 𝓛 4 tt (λ _. N) & tt) (#self (args E)) fn
    (code.unfolded 𝓤 H 𝓜 𝓡 wired (L, (K, (V, tt)))) (λ κs qs _ a vss _ are Post leave.
    let rb : ℕ = a.0.ref_ptr.0 in let ro : ℕ = a.0.ref_ptr.1 in let h : N.Denot = a.0.now in let s : ℕ = h.node_bytes in
    qed 𝓛 (((‵ (flft κs.0 qs.0) ⊛ ‵ (tokens 3 κs.1 qs.1)) ⊛ ‵ (owns (types_at En.signature.params κs) a vss))
    ∷ raw (fact 𝓤 _) ∷ raw (fact 𝓤 _) ∷ raw (fact 𝓤 _) ∷ raw (emp 𝓤) ∷ []) ∵
    keep ! (0 ∷ []) $ split ! $ split ! $ move ! (2 ∷ []) $ fsplit ! $ fsplit3 ! $ keep ! (1 ∷ 2 ∷ 4 ∷ 5 ∷ []) $
    -- [self, in two; its token; the other tokens]
    runs_at ! fn (vptr rb ro ∷ []) (λ i. are.0.0 i ++ []) $
    alloc_all ! (λ l. pass_all ! refl ((tt, tt), tt) $
    opens ! tt N {h = h} rb ro (λ vs. move ! (1 ∷ []) $ fsplit ! $ move ! (1 ∷ []) $
    use1 𝓛 (‵ (Land E h) ⊛ ‵ (Cells E ftrue h.cells)) (land_cut 𝓛 E (Land E h) h.cells) $ split ! $
    fsplit ! $ feq_l ! (λ sized. fsplit ! $ move ! (2 ∷ []) $
    -- [the nodes; the unused places; the chunks; the marker; its cell; the open borrow, in three;
    -- the other tokens]
    use1 𝓛 (‵ (Places 𝓛 E (pointers h.cells))) (cells_emptied 𝓛 E h.cells) $ move ! (1 ∷ 0 ∷ []) $
    use2 𝓛 (‵ (Places 𝓛 E (h.unused ++ pointers h.cells))) (places_glue 𝓛 E h.unused (pointers h.cells)) $
    let all : List Ptr = places s h.chunks in
    use1 𝓛 (‵ (Places 𝓛 E all)) (places_rearranged 𝓛 E (h.unused ++ pointers h.cells) all h.laid) $
    fjoin ! $ feq_i ! ℕ s (node_bytes R S W) sized $ fjoin ! $
    let h' : N.Denot = record h {
      cells = [];
      apart = IsApart-none;
      blocks = tt;
      unused = all;
      unused_blocks = AreBlocks-IsRearranged (h.unused ++ pointers h.cells) all h.laid
          (AllByRecursion-append (λ q. is_block q ≡ true) h.unused (pointers h.cells) h.unused_blocks h.blocks);
      laid = λ t. ap (count_by t) (append-nil all);
    } in
    move ! (1 ∷ 0 ∷ []) $ fjoin ! $ move ! (1 ∷ 0 ∷ []) $ closes ! tt N h' vs rb ro $ sets ! (of_opd ! (unit_lit !)) refl (tt, tt) $
    self_left ! 0 are.0.0 $ move ! (1 ∷ 2 ∷ []) $ join ! $
    feq_i ! (List Val) (vunit ∷ []) (vunit ∷ []) refl $
    returns ! (look_at ! 0 refl) $ free_all ! refl $ keep ! (1 ∷ 2 ∷ 0 ∷ []) $
    by ! (with_facts 𝓛 (_ ∷ _ ∷ _ ∷ _ ∷ []) (leave vunit tt (h', tt)) (id⊢ 𝓤 _) (refl, (refl, (refl, (refl, tt)))))))))
