-- `pop_chunk` reads the head of a chunk, and makes head and places a block. Assumes `Logic`.
use Rattle.lhm_ring.proofs.Names.{ !, Args, Chunk, IsRearranged, IsUnit, List, Ptr, RattleType, Ty, Val, [], a_type, agg, alloc_all}
use Rattle.lhm_ring.proofs.Names.{and_then, ap, append-nil, apply∗, as_fields, as_raw, block_ptr, by, chunk, chunk_token, chunk_type}
use Rattle.lhm_ring.proofs.Names.{chunk_units, closes, count_by, feq_i, feq_l, fjoin, fjoin3, fld, flt_i, fpick, free_all, froom, fsplit}
use Rattle.lhm_ring.proofs.Names.{fsplit3, fwand, get, get_in, head_owns, head_type, head_val, id⊢, in_a_block, inst_fn, is, is_block}
use Rattle.lhm_ring.proofs.Names.{join, keep, layout, layouts, load, look_at, look_in, move, no_more, node_bytes, of_opd, opens, owns}
use Rattle.lhm_ring.proofs.Names.{param, pass_all, places, pointers, ptr_val, refl, returns, rewrite, room_for, row, sem, sets, size}
use Rattle.lhm_ring.proofs.Names.{size-raw, split, stop, sub, subst, sym, tables, tcons, through, tnil, true, ty_array, ty_int, ty_ptr}
use Rattle.lhm_ring.proofs.Names.{ty_struct, type_size, types_at, use0, use1, use2, usize, vcons, vint, vnil, vptr, vstruct, w64, whole}
use Rattle.lhm_ring.proofs.Names.{word, word-Good, word_ty, yes, ‵, ℕ, ◌$◌, ◌*◌, ◌++◌, ◌+ₚ◌, ◌+◌, ◌<◌, ◌^◌, ◌∙◌, ◌∷◌, ◌≡◌, ◌⊛◌}
use Rattle.lhm_ring.proofs.memory.BlockValues.{BlockFields, BlockType, block_Good, block_made, block_val, pointer_made}
use Rattle.lhm_ring.proofs.memory.ChunkPlaces.{Chunks, Places, array_glue, places_cut}
use Rattle.lhm_ring.proofs.memory.NodeFields.{Cells, Land, Node, Nr, Pl, RK, RL, RV, Three, three_rows, word-pointer}
use Rattle.lhm_ring.proofs.memory.PlacesRearranged.{AreBlocks-IsRearranged, places_rearranged}
use Rattle.lhm_ring.proofs.memory.Steps.{gone, kept, known, lives, runs_at, self_left, unblocks, walks, with_facts, ◌&◌}
use Rattle.lhm_ring.proofs.memory.{Lodging.three_made, PlaceCut.block, Places.places-head}
use Rattle.lhm_ring.proofs.{lists.Apart.IsApart-none, lists.ForAll.AllByRecursion-right, nodes.Nodes.pop_chunk.Statement.statement}
use Rattle.std.specs.contracts.impls.GlobalAllocator.TheImpl.{ghosts}
use Rattle.lhm_ring.specs.{Nodes.parts_own, contracts.nodes.ChunkUnit.the_row as unit}
use Rattle.lhm_ring.specs.contracts.nodes.Nodes.pop_chunk.{clauses, ended, Key.name as #self}
use Rattle.std.specs.contracts.alloc.Global as heap
use Rattle.lhm_ring.proofs.nodes.Nodes.pop_chunk.Code as code

pub pop_chunk_spec : {M : Type 1} → statement M
pop_chunk_spec 𝓤 𝓛 𝓜 𝓡 wired L K V U LL LK LV LU =
    let H = 𝓛.H in let 𝓣 = tables 𝓤 H 𝓜 𝓡 𝓡.env in let E : Three = three_rows LL LK LV in
    let N = Nr E in let R = RL E in let S = RK E in let W = RV E in
    let four : Args = layouts (a_type ∷ a_type ∷ a_type ∷ a_type ∷ []) (L, (K, (V, (U, tt)))) in
    let En = ended L K V U in let c = clauses L K V U 𝓛 𝓜.mem 𝓡.returns in let fn = inst_fn four code.function in
    let Row : RattleType = param 3 U in let Block : RattleType = BlockType Row heap.the_row ghosts in
    walks 𝓛 En c 𝓡 (kept 𝓛 5 tt (λ _. N) & gone 𝓛 5 Pl yes (λ κs x f. refl) & tt) (#self four) fn
    (code.unfolded 𝓤 H 𝓜 𝓡 wired (L, (K, (V, (U, tt))))) (λ κs qs _ a vss _ are Post leave.
    let rb : ℕ = a.0.ref_ptr.0 in let ro : ℕ = a.0.ref_ptr.1 in let h : N.Denot = a.0.now in
    let p : Ptr = a.1.0.ptr in let s : ℕ = h.node_bytes in
    let Same : Type 0 = IsUnit R S W Row in
    let Asked : Type 0 = (h.cells ≡ []) × ((q : Ptr) × (n : ℕ) × (cs : List Chunk) × (h.chunks ≡ chunk p q n ∷ cs)) in
    known 𝓛 (lives 4 κs qs) (owns (types_at En.signature.params κs) a vss) (_ ∷ _ ∷ _ ∷ _ ∷ Same ∷ Asked ∷ []) (λ req.
    let same = req.1.1.1.1.0 in let asked = req.1.1.1.1.1.0 in fsplit ! $ fsplit3 ! $
    keep ! (1 ∷ 2 ∷ 4 ∷ 5 ∷ []) $
    -- [self, in two; its token; the other tokens]
    runs_at ! fn (vptr rb ro ∷ word p ∷ []) (λ i. are.0.0 i ++ (word-pointer a.1.0 vss.1.0 are.1.0 i ++ [])) $
    alloc_all ! (λ l. pass_all ! refl ((tt, tt), (word-Good [] p, tt)) $
    let q : Ptr = asked.1.0 in let n : ℕ = asked.1.1 in let cs : List Chunk = asked.1.2 in
    let last : h.chunks ≡ chunk p q n ∷ cs = asked.1.3 in let m : ℕ = chunk_units R S W n in
    let new : List Ptr = row (p +ₚ 16) s n in let rest : List Ptr = places s cs in
    let cut : IsRearranged h.unused (new ++ rest) = λ t. ap (count_by t) (sym (append-nil h.unused)
    ∙ ap (λ (ds : List (Node E)). h.unused ++ pointers ds) (sym asked.0)) ∙ h.laid t
    ∙ ap (count_by t) (ap (places s) last ∙ places-head s (chunk p q n) cs) in
    opens ! tt N {h = h} rb ro (λ vs. move ! (1 ∷ []) $ fsplit ! $ move ! (1 ∷ []) $
    rewrite ! 0 (λ (ds : List (Node E)). ‵ (Cells E (Land E h) ds)) asked.0 refl $ fsplit ! $ feq_l ! (λ sized. fsplit ! $
    -- [the unused places; the chunks; the marker; its cell; the open borrow, in three; the other
    -- tokens]
    use1 𝓛 (‵ (Places 𝓛 E (new ++ rest))) (places_rearranged 𝓛 E h.unused (new ++ rest) cut) $
    use1 𝓛 (‵ (Places 𝓛 E new) ⊛ ‵ (Places 𝓛 E rest)) (places_cut 𝓛 E new rest) $ split ! $ move ! (2 ∷ []) $
    rewrite ! 0 (λ (ds : List Chunk). ‵ (Chunks 𝓛 E ds)) last refl $ fsplit ! $ fpick ! (λ told. fsplit3 ! $
    in_a_block ! p (λ r. head_owns r q n) (id⊢ 𝓤 _) (λ b o e. let start : Ptr = block_ptr b o in
    -- [the head; the token of the chunk; that its parts join; the other chunks; its places; the
    -- other places; the marker; its cell; the open borrow, in three; the other tokens]
    sets ! (is ! (of_opd ! (get_in ! (fld ! refl (stop !)) (sub ! 0 refl (whole !)))) (ap ptr_val e)) refl (tt, tt) $
    unblocks ! $ sets ! (of_opd ! (load ! (through ! refl (fld ! refl (stop !))) (look_in ! 0 (sub ! 0 refl (whole !))))) refl
    (word-Good [] q) $ sets ! (of_opd ! (get ! refl)) refl (word-Good [] q) $
    unblocks ! $ sets ! (of_opd ! (load ! (through ! refl (fld ! refl (stop !))) (look_in ! 0 (sub ! 1 refl (whole !))))) refl
    (tt, record { fits = told.1 }) $ sets ! (of_opd ! (get ! refl)) refl (tt, record { fits = told.1 }) $
    sets ! (of_opd ! (get ! refl)) refl (tt, tt) $ sets ! (agg ! (no_more !)) refl (tt, tt) $
    sets ! (agg ! (and_then ! (get ! refl) (and_then ! (get ! refl) (no_more !)))) refl (block_Good start) $
    sets ! (of_opd ! (get ! refl)) refl (block_Good start) $
    let all : Val = vstruct (vcons (block_val start) (vcons (word q) (vcons (vint w64 n) vnil))) in
    sets ! (agg ! (and_then ! (get ! refl) (and_then ! (get ! refl) (and_then ! (get ! refl) (no_more !))))) refl
    (as_fields (ty_struct [] (tcons ty_ptr (tcons (ty_struct [] tnil) tnil)) ∷ word_ty [] ∷ ty_int w64 ∷ [])
    (block_val start ∷ word q ∷ vint w64 n ∷ []) (block_Good start, (word-Good [] q, ((tt, record { fits = told.1 }), tt)))) $
    -- the head and the places make the block
    use1 𝓛 (‵ (froom head_type b o)) (𝓛.laws.at_room head_type b o (head_val q n)) $ as_raw ! head_type b o $ move ! (4 ∷ []) $
    rewrite ! 0 (λ (z : ℕ × Ptr). ‵ (Places 𝓛 E (row (z.1 +ₚ 16) z.0 n))) (λ i. (sized i, e i)) refl $
    use1 𝓛 (‵ (froom (ty_array (block E) n) b (o + 16))) (array_glue 𝓛 E n b (o + 16)) $ move ! (1 ∷ 0 ∷ []) $ fjoin ! $
    -- [the parts; the token of the chunk; that they join; the other chunks; the other places; ..]
    move ! (2 ∷ []) $ rewrite ! 0 (λ (r : Ptr). ‵ (fwand (parts_own R S W n r) (room_for (chunk_type R S W n) r))) e refl $
    move ! (1 ∷ 0 ∷ []) $ use2 𝓛 (‵ (room_for (chunk_type R S W n) start))
    (apply∗ 𝓤 (sem 𝓛 (parts_own R S W n start)) (sem 𝓛 (room_for (chunk_type R S W n) start))) $
    rewrite ! 0 (λ (τ : Ty). ‵ (room_for (ty_array τ m) start)) (sym same) refl $
    rewrite ! 1 (λ (z : Ty × Ptr). ‵ (chunk_token (ty_array z.0 m) z.1)) (λ i. ((sym same) i, e i)) refl $
    let as_large : type_size (unit R S W) ≡ type_size Row =
    sym (sym (size-raw (layout Row)) ∙ ap size same ∙ size-raw (layout (unit R S W))) in
    move ! (1 ∷ 0 ∷ []) $
    flt_i ! (m * type_size Row) (2 ^ 63) (subst (λ (k : ℕ). m * k < 2 ^ 63) as_large told.0.3) $ fjoin3 ! $
    let out : Block.Denot = record { ptr = start; marker = record {}; alloc = record { memory = record { seal = tt } }; count = m } in
    use0 𝓛 (‵ ((BlockFields Row heap.the_row ghosts).own_val (start, (record {}, tt))
    (block_val start ∷ []))) (block_made Row heap.the_row ghosts 𝓛 start) $ fjoin ! $
    -- [the block; the other chunks; the other places; the marker; its cell; the open borrow, in
    -- three; the other tokens]
    move ! (2 ∷ 1 ∷ []) $ fjoin ! $ feq_i ! ℕ s (node_bytes R S W) sized $ fjoin ! $
    let h' : N.Denot = record h {
      cells = [];
      apart = IsApart-none;
      blocks = tt;
      unused = rest;
      chunks = cs;
      unused_blocks = AllByRecursion-right (λ r. is_block r ≡ true) new rest
          (AreBlocks-IsRearranged h.unused (new ++ rest) cut h.unused_blocks);
      laid = λ t. ap (count_by t) (append-nil rest);
    } in
    move ! (2 ∷ 0 ∷ []) $ fjoin ! $ move ! (2 ∷ 0 ∷ 3 ∷ 4 ∷ 5 ∷ []) $ closes ! tt N h' vs rb ro $
    -- [self; its token; the block; the other tokens]
    self_left ! 1 are.0.0 $ move ! (1 ∷ 3 ∷ []) $ join ! $ move ! (2 ∷ []) $
    flt_i ! n (2 ^ 64) told.1 $ feq_i ! (List Val) (vint w64 n ∷ []) (vint w64 n ∷ []) refl $ fjoin ! $
    use0 𝓛 (‵ (Pl.own_val (record { ptr = q }) (word q ∷ []))) (pointer_made 𝓛 q) $ move ! (2 ∷ 0 ∷ 1 ∷ []) $
    three_made ! Block Pl usize out (record { ptr = q }) n (block_val start) (word q) (vint w64 n) $
    returns ! (look_at ! 0 refl) $ free_all ! refl $ keep ! (1 ∷ 2 ∷ 0 ∷ []) $
    by ! (with_facts 𝓛 (_ ∷ _ ∷ _ ∷ []) (leave all (out, (record { ptr = q }), n) (h', (tt, tt))) (id⊢ 𝓤 _)
    (refl, (last, ((told.0, refl), tt)))))))))))
