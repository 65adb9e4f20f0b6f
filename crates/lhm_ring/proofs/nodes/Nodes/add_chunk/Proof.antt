-- `add_chunk` writes the head of a chunk, and cuts the rest into places. Assumes `Logic`.
use Rattle.lhm_ring.proofs.Names.{ !, Args, Chunk, IsChunk, IsUnit, List, Ptr, RattleType, SProp, Ty, Val, [], a_type, agg, alloc_all}
use Rattle.lhm_ring.proofs.Names.{and_then, ap, arith, as_fields, as_written, assigns, bin, block_ptr, by, chunk, chunk_token, chunk_type}
use Rattle.lhm_ring.proofs.Names.{chunk_units, closes, feq_i, feq_l, fjoin, fjoin3, fld, flt_l, fpack, free_all, froom, fsep, fsplit}
use Rattle.lhm_ring.proofs.Names.{fsplit3, ftrue, fwand, get, get_in, head_owns, head_type, id⊢, in_a_block, init, inst_fn, is, is_block}
use Rattle.lhm_ring.proofs.Names.{join, keep, layouts, lit, look_at, move, no, no_more, node_bytes, of_opd, one_below, opens, owns, param}
use Rattle.lhm_ring.proofs.Names.{pass_all, pointers, ptr_val, refl, returns, rewrite, room_for, row, sem, sets, size-raw, snd∗, split}
use Rattle.lhm_ring.proofs.Names.{stop, sub, subst, sym, tables, through, true, ty_array, ty_int, type_size, types_at, use0, use1, use2}
use Rattle.lhm_ring.proofs.Names.{usize, vcons, via, vint, vnil, vptr, vstruct, w64, whole, word, word-Good, word_ty, yes, ‵, ℕ, ◌$◌, ◌*◌}
use Rattle.lhm_ring.proofs.Names.{◌++◌, ◌+◌, ◌<◌, ◌^◌, ◌∙◌, ◌∷◌, ◌≡◌, ◌⊛◌}
use Rattle.lhm_ring.proofs.memory.BlockValues.{BlockType, block_Good, block_known, block_val, pointer_made}
use Rattle.lhm_ring.proofs.memory.ChunkPlaces.{Places, array_cut, land_cut, land_glue, places_glue}
use Rattle.lhm_ring.proofs.memory.NodeFields.{Cells, Land, Nr, Pl, RK, RL, RV, Three, three_rows, two_made, word-pointer}
use Rattle.lhm_ring.proofs.memory.Places.{AreBlocks-row, nat_lt-near, row-more}
use Rattle.lhm_ring.proofs.memory.Steps.{gone, kept, known, knows, lives, runs_at, self_left, unblocks, unblocks_more, used, walks}
use Rattle.lhm_ring.proofs.memory.{ChunkParts.chunk-bytes, ChunkParts.chunk_parts, PlaceCut.written, Steps.with_facts, Steps.◌&◌}
use Rattle.lhm_ring.proofs.{lists.ForAll.AllByRecursion-append, nodes.Nodes.add_chunk.Statement.statement}
use Rattle.std.{proofs.GlobalToken.dealloc_token_start, specs.contracts.impls.GlobalAllocator.TheImpl.ghosts}
use Rattle.lhm_ring.specs.{Nodes.parts_own, contracts.nodes.Node.the_row as node}
use Rattle.lhm_ring.specs.contracts.nodes.Nodes.add_chunk.{clauses, ended, Key.name as #self}
use Rattle.std.specs.contracts.alloc.Global as heap
use Rattle.lhm_ring.proofs.nodes.Nodes.add_chunk.Code as code

pub add_chunk_spec : {M : Type 1} → statement M
add_chunk_spec 𝓤 𝓛 𝓜 𝓡 wired L K V U LL LK LV LU =
    let H = 𝓛.H in let 𝓣 = tables 𝓤 H 𝓜 𝓡 𝓡.env in let E : Three = three_rows LL LK LV in
    let N = Nr E in let R = RL E in let S = RK E in let W = RV E in
    let four : Args = layouts (a_type ∷ a_type ∷ a_type ∷ a_type ∷ []) (L, (K, (V, (U, tt)))) in
    let En = ended L K V U in let c = clauses L K V U 𝓛 𝓜.mem 𝓡.returns in let fn = inst_fn four code.function in
    let Row : RattleType = param 3 U in let Block : RattleType = BlockType Row heap.the_row ghosts in
    walks 𝓛 En c 𝓡
    (kept 𝓛 5 tt (λ _. N) & used 𝓛 5 Block no (λ κs x f. tt) & gone 𝓛 5 Pl yes (λ κs x f. refl) & gone 𝓛 5 usize yes (λ κs x f. refl) & tt)
    (#self four) fn (code.unfolded 𝓤 H 𝓜 𝓡 wired (L, (K, (V, (U, tt))))) (λ κs qs _ a vss _ are Post leave.
    let rb : ℕ = a.0.ref_ptr.0 in let ro : ℕ = a.0.ref_ptr.1 in let h : N.Denot = a.0.now in
    let given = a.1.0 in let q : Ptr = a.1.1.0.ptr in let n : ℕ = a.1.1.1.0 in let s : ℕ = h.node_bytes in
    let m : ℕ = chunk_units R S W n in
    let Unit_ : Type 0 = IsUnit R S W Row in
    let Asked : Type 0 = IsChunk R S W n × (given.count ≡ m) in
    known 𝓛 (lives 4 κs qs) (owns (types_at En.signature.params κs) a vss) (_ ∷ _ ∷ _ ∷ _ ∷ Unit_ ∷ Asked ∷ []) (λ req.
    let same = req.1.1.1.1.0 in let asked = req.1.1.1.1.1.0 in fsplit3 ! $
    fsplit3 ! $ keep ! (3 ∷ 1 ∷ 2 ∷ 5 ∷ 6 ∷ []) $
    -- [the block; self, in two; its token; the other tokens]
    block_known Row heap.the_row ghosts ! given vss.1.0 (λ told.
    fsplit3 ! $ flt_l ! (λ fit. move ! (1 ∷ []) $
    rewrite ! 0 (λ (z : Ty × ℕ). ‵ (room_for (ty_array z.0 z.1) given.ptr)) (λ i. (same i, asked.1 i)) refl $
    rewrite ! 1 (λ (z : Ty × ℕ). ‵ (chunk_token (ty_array z.0 z.1) given.ptr)) (λ i. (same i, asked.1 i)) refl $
    in_a_block ! given.ptr (λ r. room_for (chunk_type R S W n) r) (id⊢ 𝓤 _) (λ b o e. let p : Ptr = block_ptr b o in
    rewrite ! 1 (λ (r : Ptr). ‵ (chunk_token (chunk_type R S W n) r)) e refl $
    let token : SProp 𝓤 = sem 𝓛 (chunk_token (chunk_type R S W n) p) in
    knows ! (o ≡ 0) (via 𝓤 token (snd∗ 𝓤 (sem 𝓛 (froom (chunk_type R S W n) b o)) token)
    (dealloc_token_start 𝓛 (record { memory = record { seal = tt } }) (chunk_type R S W n) p))
    (λ starts.
    let Back = fwand (parts_own R S W n p) (room_for (chunk_type R S W n) p) in
    let at : ℕ = o + 16 in let place : Ptr = block_ptr b at in let turned : 16 + o ≡ at = omega arith in
    use1 𝓛 (‵ (parts_own R S W n p) ⊛ ‵ Back) (chunk_parts 𝓛 E b o n asked.0) $ split ! $ fsplit ! $ move ! (1 ∷ []) $
    use1 𝓛 (‵ (Places 𝓛 E (row place (node_bytes R S W) n))) (array_cut 𝓛 E n b at) $ move ! (1 ∷ []) $ as_written ! head_type b o $
    -- [the head's memory; the new places; that they join; the token of the chunk; self, in two; its
    -- token; the other tokens]
    let f₆₄ : n < 2 ^ 64 = are.1.1.1.0.1 in
    let good = as_fields (word_ty [] ∷ ty_int w64 ∷ []) (word q ∷ vint w64 n ∷ []) (word-Good [] q, ((tt, record { fits = f₆₄ }), tt)) in
    runs_at ! fn (vptr rb ro ∷ block_val given.ptr ∷ word q ∷ vint w64 n ∷ [])
    (λ i. are.0.0 i ++ (told i ++ (word-pointer a.1.1.0 vss.1.1.0 are.1.1.0 i ++ (are.1.1.1.0.0 i ++ [])))) $
    alloc_all ! (λ l. pass_all ! refl ((tt, tt), (block_Good given.ptr, (word-Good [] q, ((tt, record { fits = f₆₄ }), tt)))) $
    sets ! (is ! (of_opd ! (get_in ! (fld ! refl (stop !)) (sub ! 0 refl (whole !))))
    (ap ptr_val e)) refl (tt, tt) $ sets ! (of_opd ! (get ! refl)) refl (tt, tt) $ sets ! (of_opd ! (get ! refl)) refl (tt, tt) $
    unblocks_more ! $ sets ! (of_opd ! (get ! refl)) refl (tt, tt) $
    unblocks_more ! $ sets ! (of_opd ! (get ! refl)) refl (word-Good [] q) $
    unblocks_more ! $ sets ! (of_opd ! (get ! refl)) refl (tt, record { fits = f₆₄ }) $
    unblocks_more ! $ sets ! (agg ! (and_then ! (get ! refl) (and_then ! (get ! refl) (no_more !)))) refl good $
    unblocks ! $ assigns ! (of_opd ! (get ! refl)) (through ! refl (stop !)) (init ! 0 refl good) $
    sets ! (of_opd ! (get ! refl)) refl (tt, tt) $ sets ! (of_opd ! (get ! refl)) refl (tt, tt) $
    sets ! (agg ! (and_then ! (get ! refl) (no_more !))) refl (word-Good [] p) $
    unblocks_more ! $ sets ! (of_opd ! (get ! refl)) refl (tt, tt) $
    unblocks ! $ sets ! (is ! (bin ! (get ! refl) (lit ! tt) tt) (ap (λ (k : ℕ). vptr b k) turned)) refl (tt, tt) $
    sets ! (of_opd ! (get ! refl)) refl (tt, tt) $ sets ! (of_opd ! (get ! refl)) refl (tt, tt) $
    sets ! (agg ! (and_then ! (get ! refl) (no_more !))) refl (word-Good [] place) $
    sets ! (of_opd ! (get ! refl)) refl (word-Good [] p) $ sets ! (of_opd ! (get ! refl)) refl (word-Good [] place) $
    let out : Val = vstruct (vcons (word p) (vcons (word place) vnil)) in
    sets ! (agg ! (and_then ! (get ! refl) (and_then ! (get ! refl) (no_more !)))) refl
    (as_fields (word_ty [] ∷ word_ty [] ∷ []) (word p ∷ word place ∷ []) (word-Good [] p, (word-Good [] place, tt))) $
    -- [the head; the new places; that they join; the token of the chunk; self, in two; its token;
    -- the other tokens]
    move ! (4 ∷ 5 ∷ 6 ∷ []) $ opens ! tt N {h = h} rb ro (λ vs. move ! (1 ∷ []) $ fsplit ! $ move ! (1 ∷ []) $
    use1 𝓛 (‵ (Land E h) ⊛ ‵ (Cells E ftrue h.cells)) (land_cut 𝓛 E (Land E h) h.cells) $ split ! $ fsplit ! $ feq_l ! (λ sized. fsplit ! $
    -- [the unused places; the chunks; the nodes; the marker; its cell; the open borrow, in three;
    -- the head; the new places; that they join; the token of the chunk; the other tokens]
    let bytes_are = chunk-bytes E n asked.0 in
    let written_is : node_bytes R S W ≡ type_size (node R S W) = size-raw (written E) in
    let whole : n * node_bytes R S W + 16 < 2 ^ 63 =
    subst (λ (k : ℕ). n * k + 16 < 2 ^ 63) (sym written_is)
    (subst (λ (k : ℕ). k < 2 ^ 63) (bytes_are ∙ omega arith) asked.0.3) in
    let fits : n * node_bytes R S W < 2 ^ 63 = omega (arith, whole) in
    let low : s < 2 ^ 63 = subst (λ (k : ℕ). k < 2 ^ 63) (sym sized) (one_below n (node_bytes R S W) (2 ^ 63) asked.0.0 fits) in
    let new : List Ptr = row place s n in let us' : List Ptr = new ++ h.unused in
    let near_p : is_block p ≡ true = nat_lt-near o (subst (λ (k : ℕ). k < 2 ^ 63) (sym starts)
    (omega arith)) in
    let one : Chunk = chunk p q n in
    move ! (9 ∷ 0 ∷ []) $ rewrite ! 0 (λ (k : ℕ). ‵ (Places 𝓛 E (row place k n))) (sym sized) refl $
    use2 𝓛 (‵ (Places 𝓛 E us')) (places_glue 𝓛 E new h.unused) $
    move ! (8 ∷ 10 ∷ 9 ∷ []) $ fjoin3 ! $
    fpack ! (IsChunk R S W n × (n < 2 ^ 64)) (λ _. fsep (head_owns p q n) (fsep (chunk_token (chunk_type R S W n) p) Back)) (asked.0, f₆₄) $
    move ! (0 ∷ 2 ∷ []) $ fjoin ! $ move ! (1 ∷ 0 ∷ []) $ fjoin ! $ feq_i ! ℕ s (node_bytes R S W) sized $ fjoin ! $
    let h' : N.Denot = record h {
      unused = us';
      chunks = one ∷ h.chunks;
      unused_blocks = AllByRecursion-append (λ r. is_block r ≡ true) new h.unused
          (AreBlocks-row b at s n (subst (λ (k : ℕ). at + n * k < 2 ^ 63) (sym sized)
          (subst (λ (k : ℕ). k + 16 + n * node_bytes R S W < 2 ^ 63) (sym starts)
          (omega (arith, whole))))) h.unused_blocks;
      laid = row-more s one h.unused (pointers h.cells) h.chunks h.laid;
    } in
    move ! (0 ∷ 1 ∷ []) $ use2 𝓛 (‵ (Cells E (Land E h') h.cells)) (land_glue 𝓛 E (Land E h') h.cells) $
    move ! (1 ∷ 0 ∷ []) $ fjoin ! $ move ! (1 ∷ 0 ∷ []) $ closes ! tt N h' vs rb ro $
    self_left ! 3 are.0.0 $ move ! (1 ∷ 2 ∷ []) $ join ! $
    use0 𝓛 (‵ (Pl.own_val (record { ptr = place }) (word place ∷ []))) (pointer_made 𝓛 place) $
    use0 𝓛 (‵ (Pl.own_val (record { ptr = p }) (word p ∷ []))) (pointer_made 𝓛 p) $
    two_made ! Pl Pl (record { ptr = p }) (record { ptr = place }) (word p) (word place) $
    returns ! (look_at ! 0 refl) $ free_all ! refl $ keep ! (1 ∷ 2 ∷ 0 ∷ []) $
    by ! (with_facts 𝓛 (_ ∷ _ ∷ _ ∷ _ ∷ _ ∷ []) (leave out (record { ptr = p }, (record { ptr = place })) (h', (tt, (tt, (tt, tt)))))
    (id⊢ 𝓤 _) (refl, ((refl, low), (refl, (refl, (near_p, tt)))))))))))))))
