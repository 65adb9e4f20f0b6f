-- `add` writes the links into the last unused place, which lies apart from the nodes. Assumes
-- `Logic`.
use Rattle.lhm_ring.proofs.Names.{ !, List, None, Ptr, T, Val, [], addr, agg, alloc_all, and_then, ap, arith, as_written, assigns, bin}
use Rattle.lhm_ring.proofs.Names.{block_ptr, by, cell, closes, count_by, drop, feq_i, feq_l, fields_own, fjoin, fld, free_all, fsplit}
use Rattle.lhm_ring.proofs.Names.{fsplit3, ftrue, full_share, get, get_in, id⊢, init, inst_fn, is, is_block, join, keep, layout, lies_at}
use Rattle.lhm_ring.proofs.Names.{links_address, look_at, ltb→lt, move, no, no_more, node_bytes, of_opd, opens, owns, pass_all, pointers}
use Rattle.lhm_ring.proofs.Names.{ptr_val, refl, returns, rewrite, room_for, row, sets, size, size-raw, size_lit, split, stop, sub, subst}
use Rattle.lhm_ring.proofs.Names.{sym, tables, through, true, types_at, use0, use1, use2, usize, vint, vptr, w64, whole, word, word-Good}
use Rattle.lhm_ring.proofs.Names.{yes, ‵, ℕ, ◌$◌, ◌*◌, ◌++◌, ◌+ₚ◌, ◌+◌, ◌<◌, ◌^◌, ◌∙◌, ◌∷◌, ◌≡◌, ◌⊛◌}
use Rattle.lhm_ring.proofs.memory.ChunkPlaces.{Places, land_cut, land_glue, places_cut}
use Rattle.lhm_ring.proofs.memory.NodeFields.{Cells, Land, Nr, Pl, RK, RL, RV, Three, alone, args, lo, three_rows, value_in, word-pointer}
use Rattle.lhm_ring.proofs.memory.PlaceCut.{Rejoins, block, block_cut, written}
use Rattle.lhm_ring.proofs.memory.Places.{AreBlocks-row_other, block_ptr-in_block, is_block-row_first, is_block-row_last, row-last}
use Rattle.lhm_ring.proofs.memory.Steps.{gone, kept, known, knows, lives, runs_at, self_left, unblocks, unblocks_more, walks, with_facts}
use Rattle.lhm_ring.proofs.memory.{BlockValues.fresh, BlockValues.pointer_made, Places.row-next, Steps.◌&◌}
use Rattle.lhm_ring.proofs.{lists.Apart.IsApart-added, lists.Apart.IsFresh, nodes.Nodes.add.Statement.statement}
use denote.Param.Laws.{param_laws}
use Rattle.lhm_ring.specs.contracts.nodes.Nodes.add.{clauses, ended, Key.name as #self}
use Rattle.lhm_ring.proofs.nodes.Nodes.add.Code as code

pub add_spec : {M : Type 1} → statement M
add_spec 𝓤 𝓛 𝓜 𝓡 wired L K V LL LK LV =
    let H = 𝓛.H in let 𝓣 = tables 𝓤 H 𝓜 𝓡 𝓡.env in let E : Three = three_rows LL LK LV in
    let N = Nr E in let R = RL E in let S = RK E in let W = RV E in
    let En = ended L K V in let c = clauses L K V 𝓛 𝓜.mem 𝓡.returns in let fn = inst_fn (args E) code.function in
    walks 𝓛 En c 𝓡
    (kept 𝓛 4 tt (λ _. N) & gone 𝓛 4 Pl yes (λ κs x f. refl) & gone 𝓛 4 usize yes (λ κs x f. refl) & gone 𝓛 4 R no (λ κs x f. refl) & tt)
    (#self (args E)) fn (code.unfolded 𝓤 H 𝓜 𝓡 wired (L, (K, (V, tt)))) (λ κs qs _ a vss _ are Post leave.
    let rb : ℕ = a.0.ref_ptr.0 in let ro : ℕ = a.0.ref_ptr.1 in let h : N.Denot = a.0.now in
    let p : Ptr = a.1.0.ptr in let n : ℕ = a.1.1.0 in
    let new : L.Denot = a.1.1.1.0 in let got = alone (layout L) vss.1.1.1.0
    (((param_laws 0 L LL).lawful 𝓛).typed new vss.1.1.1.0 are.1.1.1.0) in let v : Val = got.0 in
    let s : ℕ = h.node_bytes in
    let Taking : Type 0 = 0 < size (layout L) in let Small : Type 0 = s < 2 ^ 63 in let Unused : Type 0 = h.unused ≡ row p s (n + 1) in
    known 𝓛 (lives 3 κs qs) (owns (types_at En.signature.params κs) a vss) (_ ∷ _ ∷ _ ∷ Taking ∷ Small ∷ Unused ∷ []) (λ req.
    let taking = req.1.1.1.0 in let small = req.1.1.1.1.0 in let given = req.1.1.1.1.1.0 in fsplit3 ! $ fsplit3 ! $
    move ! (4 ∷ []) $ fsplit3 ! $ keep ! (4 ∷ 5 ∷ 7 ∷ 1 ∷ 8 ∷ []) $
    rewrite ! 3 (λ (ws : List Val). ‵ (R.own_val new ws)) got.1.0 refl $
    runs_at ! fn (vptr rb ro ∷ word p ∷ vint w64 n ∷ v ∷ [])
    (λ i. are.0.0 i ++ (word-pointer a.1.0 vss.1.0 are.1.0 i ++ (are.1.1.0.0 i ++ (got.1.0 i ++ [])))) $
    alloc_all ! (λ l. pass_all ! refl ((tt, tt), (word-Good [] p, ((tt, record { fits = are.1.1.0.1 }), (got.1.1, tt)))) $
    let left : List Ptr = row p s n in let last : Ptr = p +ₚ (n * s) in
    let at : (at : ℕ × ℕ) × (p ≡ block_ptr at.0 at.1) = block_ptr-in_block p (is_block-row_first p s n h.unused given h.unused_blocks) in
    let pb : ℕ = at.0.0 in let po : ℕ = at.0.1 in
    opens ! tt N {h = h} rb ro (λ vs. move ! (1 ∷ []) $ fsplit ! $ move ! (1 ∷ []) $
    use1 𝓛 (‵ (Land E h) ⊛ ‵ (Cells E ftrue h.cells)) (land_cut 𝓛 E (Land E h) h.cells) $ split ! $ fsplit ! $ feq_l ! (λ sized. fsplit ! $
    -- [the unused places; the chunks; the nodes; the marker; its cell; the open borrow, in three;
    -- the new links; the other tokens]
    rewrite ! 0 (λ (ps : List Ptr). ‵ (Places 𝓛 E ps)) (given ∙ row-last p s n) refl $
    use1 𝓛 (‵ (Places 𝓛 E left) ⊛ ‵ (Places 𝓛 E (last ∷ []))) (places_cut 𝓛 E left (last ∷ [])) $ split ! $
    move ! (1 ∷ []) $ fsplit ! $ move ! (1 ∷ []) $ drop ! $
    let size_is : size (written E) ≡ s = sym (size-raw (written E)) ∙ sym sized in let no : ℕ =
    n * size (written E) + po in let q : Ptr = block_ptr pb no in
    let here : last ≡ q = ap (λ (r : Ptr). r +ₚ (n * s)) at.1
    ∙ ap (λ (k : ℕ). block_ptr pb (po + n * k)) (sym size_is) ∙ ap (λ (k : ℕ). block_ptr pb k)
    (omega arith) in
    let near_q : is_block q ≡ true = ap is_block (sym here) ∙ is_block-row_last p s n h.unused given h.unused_blocks in
    let low : no < 2 ^ 63 = ltb→lt no (2 ^ 63) (subst T (sym near_q) tt) in
    rewrite ! 0 (λ (r : Ptr). ‵ (room_for (block E) r)) here refl $
    use1 𝓛 (‵ (fields_own R S W q) ⊛ ‵ (Rejoins E q)) (block_cut E 𝓛 pb no) $ split ! $ fsplit ! $ move ! (0 ∷ 5 ∷ []) $
    -- [the links' memory; the nodes; the pair's memory; the deed; the unused places; the chunks;
    -- the marker; its cell; the open borrow, in three; the new links; the other tokens]
    knows ! (IsFresh q (pointers h.cells)) (fresh 𝓛 𝓜 E taking ftrue q h.cells) (λ free. as_written ! (layout L) pb (no + lo E) $
    let tiny : size (written E) < 2 ^ 64 = omega (arith, small, size_is) in let fits : n * size (written E) < 2 ^ 64 = omega (arith, low) in
    sets ! (is ! (of_opd ! (get_in ! (fld ! refl (stop !)) (sub ! 0 refl (whole !))))
    (ap ptr_val at.1)) refl (tt, tt) $
    unblocks_more ! $ sets ! (bin ! (get ! refl) (size_lit ! (record { fits = tiny })) (record { fits = fits })) refl
    (tt, record { fits = fits }) $
    unblocks ! $ sets ! (bin ! (get ! refl) (get ! refl) tt) refl (tt, tt) $
    sets ! (of_opd ! (get ! refl)) refl (tt, tt) $
    unblocks_more ! $ sets ! (addr ! (through ! refl (fld ! refl (stop !)))) refl (tt, tt) $
    unblocks_more ! $ sets ! (of_opd ! (get ! refl)) refl got.1.1 $
    unblocks ! $ assigns ! (of_opd ! (get ! refl)) (through ! refl (stop !)) (init ! 0 refl got.1.1) $
    sets ! (of_opd ! (get ! refl)) refl (tt, tt) $ sets ! (agg ! (and_then ! (get ! refl) (no_more !))) refl (word-Good [] q) $
    move ! (0 ∷ 11 ∷ []) $ use2 𝓛 (‵ (lies_at R full_share (links_address R S W q) new)) (value_in 0 L LL 𝓛 new pb (no + lo E) v) $
    move ! (2 ∷ 3 ∷ []) $ fjoin ! $ move ! (1 ∷ 0 ∷ []) $ fjoin ! $ fjoin ! $
    -- [the nodes; the unused places; the chunks; the marker; its cell; the open borrow, in three;
    -- the other tokens]
    let h' : N.Denot = record h {
      cells = cell q new None ∷ h.cells;
      apart = IsApart-added q (pointers h.cells) free h.apart;
      blocks = (near_q, h.blocks);
      unused = left;
      unused_blocks = AreBlocks-row_other p s n h.unused given h.unused_blocks;
      laid = λ t. ap (λ (r : Ptr). count_by t (left ++ r ∷ pointers h.cells)) (sym here)
          ∙ ap (count_by t) (row-next p s n h.unused given (pointers h.cells)) ∙ h.laid t;
    } in
    move ! (1 ∷ 2 ∷ []) $ fjoin ! $ feq_i ! ℕ s (node_bytes R S W) sized $ fjoin ! $
    use2 𝓛 (‵ (Cells E (Land E h') h'.cells)) (land_glue 𝓛 E (Land E h') h'.cells) $
    move ! (1 ∷ 0 ∷ []) $ fjoin ! $ move ! (1 ∷ 0 ∷ []) $ closes ! tt N h' vs rb ro $
    self_left ! 3 are.0.0 $ move ! (1 ∷ 2 ∷ []) $ join ! $
    use0 𝓛 (‵ (Pl.own_val (record { ptr = q }) (word q ∷ []))) (pointer_made 𝓛 q) $
    returns ! (look_at ! 0 refl) $ free_all ! refl $ keep ! (1 ∷ 2 ∷ 0 ∷ []) $
    by ! (with_facts 𝓛 (_ ∷ _ ∷ _ ∷ _ ∷ _ ∷ []) (leave (word q) (record { ptr = q }) (h', (tt, (tt, (tt, tt))))) (id⊢ 𝓤 _)
    (refl, (refl, (refl, (refl, (near_q, tt))))))))))))
