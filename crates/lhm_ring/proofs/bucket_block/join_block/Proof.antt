-- `join_block` takes the memory of heads and words back. Assumes `Logic`.
use Rattle.lhm_ring.proofs.Names.{ !, Bool, Ptr, RattleType, RawPtr, [], agg, alive, alloc_all, and_then, apply∗, arith, array_of, behind}
use Rattle.lhm_ring.proofs.Names.{block_dealloc, block_heads, by, fjoin, flt_i, flt_l, free_all, fsplit, fsplit3, get, id⊢, is_live, keep}
use Rattle.lhm_ring.proofs.Names.{length, lodged, look_at, move, no_more, owns, owns_if, param, parts_own, pass_all, ptr_val, raw}
use Rattle.lhm_ring.proofs.Names.{rawptr_Lawful, refl, returns, rewrite, room_for, sem, sets, types_at, use0, use1, use2, vnil, vstruct}
use Rattle.lhm_ring.proofs.Names.{yes, ‵, ℕ, ◌$◌, ◌*◌, ◌++◌, ◌<◌, ◌^◌, ◌∷◌, ◌≡◌}
use Rattle.lhm_ring.proofs.memory.BlockValues.{BlockFields, BlockType, block_Good, block_made, block_val}
use Rattle.lhm_ring.proofs.memory.Steps.{all_spent, gone, known, runs_at, used, walks, with_facts, ◌&◌}
use Rattle.lhm_ring.proofs.memory.{ElementsOwned.Owner, ElementsOwned.elements_known, Lodging.none_had, Lodging.room_of_vector}
use Rattle.lhm_ring.proofs.{bucket_block.join_block.Statement.statement, memory.NodeFields.marker}
use Rattle.std.specs.contracts.impls.GlobalAllocator.TheImpl.{ghosts}
use Rattle.lhm_ring.specs.contracts.bucket_block.{Dealloc.the_row as dealloc, Head.the_row as head, Word.the_row as word}
use Rattle.lhm_ring.specs.contracts.bucket_block.join_block.{clauses, ended, Key.name as #self}
use Rattle.std.specs.contracts.alloc.Global as heap
use Rattle.lhm_ring.proofs.bucket_block.Head.TheLaws as head-laws
use Rattle.lhm_ring.proofs.bucket_block.Word.TheLaws as word-laws
use Rattle.lhm_ring.proofs.bucket_block.join_block.Code as code

abbrev Block : RattleType
Block = BlockType head heap.the_row ghosts

pub join_block_spec : {M : Type 1} → statement M
join_block_spec 𝓤 𝓛 𝓜 𝓡 wired =
    walks 𝓛 ended (clauses 𝓛 𝓜.mem 𝓡.returns) 𝓡 (gone 𝓛 0 RawPtr yes (λ κs x f. refl) & used 𝓛 0 (Owner head) yes (λ κs x f. tt)
    & used 𝓛 0 (Owner word) yes (λ κs x f. tt) & used 𝓛 0 dealloc yes (λ κs x f. tt) & tt) #self code.function
    (code.unfolded 𝓤 𝓛.H 𝓜 𝓡 wired) (λ κs qs _ a vss _ are Post leave.
    let p : Ptr = a.0 in let hs = a.1.0 in let ws = a.1.1.0 in let d = a.1.1.1.0 in let n : ℕ = d.count in
    let k : ℕ = block_heads n in
    known 𝓛 (raw (alive 𝓛 ended.signature κs qs) ∷ []) (owns (types_at ended.signature.params κs) a vss)
    ((0 < n) ∷ ((length hs.items ≡ n) × (length ws.items ≡ n)) ∷ ((d.at ≡ p) × (hs.at ≡ p) × (ws.at ≡ behind p n)) ∷ []) (λ req.
    let some = req.0 in let counts = req.1.0 in let placed = req.1.1.0 in
    fsplit3 ! $ move ! (2 ∷ []) $ fsplit3 ! $ keep ! (4 ∷ 0 ∷ 1 ∷ 5 ∷ []) $
    -- [the heads; the words; the right to free; what is alive]
    elements_known ! head hs vss.1.0 (λ eh. move ! (1 ∷ []) $ elements_known ! word ws vss.1.1.0 (λ ew. move ! (2 ∷ []) $
    fsplit ! $ none_had ! vss.1.1.1.0 (λ ed.
    rewrite ! 0 (λ (z : Bool × Ptr). ‵ (owns_if z.0 (block_dealloc z.1 n k))) (λ i. ((is_live n some) i, placed.0 i)) refl $
    fsplit3 ! $ flt_l ! (λ fit.
    -- [the token; that the parts join; the words; the heads; what is alive]
    runs_at ! code.function (ptr_val p ∷ marker ∷ marker ∷ vstruct vnil ∷ [])
    (λ i. are.0 i ++ (eh i ++ (ew i ++ (ed i ++ [])))) $
    alloc_all ! (λ l. pass_all ! refl (((rawptr_Lawful 𝓛).typed p _ refl).0, ((tt, (tt, tt)), ((tt, (tt, tt)), ((tt, tt), tt)))) $
    sets ! (agg ! (no_more !)) refl (tt, tt) $ sets ! (agg ! (and_then ! (get ! refl) (and_then ! (get ! refl) (no_more !)))) refl
    (block_Good p) $
    move ! (2 ∷ []) $ rewrite ! 0 (λ (z : Ptr × ℕ). ‵ (lodged (param 0 word) z.0 z.1 z.1 ws.items)) {x = (behind p n, n)}
    (λ i. (placed.2 i, counts.1 i)) refl $
    use1 𝓛 (‵ (room_for (array_of word n) (behind p n)))
    (room_of_vector word word-laws.the_row_laws 𝓛 n some n ws.items (omega arith) (behind p n)) $
    move ! (3 ∷ []) $ rewrite ! 0 (λ (z : Ptr × ℕ). ‵ (lodged (param 0 head) z.0 z.1 z.1 hs.items)) {x = (p, n)}
    (λ i. (placed.1 i, counts.0 i)) refl $
    use1 𝓛 (‵ (room_for (array_of head n) p))
    (room_of_vector head head-laws.the_row_laws 𝓛 n some n hs.items (omega arith) p) $ fjoin ! $
    -- [the parts; the token; that they join; what is alive]
    move ! (0 ∷ 2 ∷ []) $ use2 𝓛 (‵ (room_for (array_of head k) p))
    (apply∗ 𝓤 (sem 𝓛 (parts_own p n)) (sem 𝓛 (room_for (array_of head k) p))) $
    move ! (1 ∷ 0 ∷ []) $ fjoin ! $ flt_i ! (k * 8) (2 ^ 63) fit $ fjoin ! $
    let out : Block.Denot = record { ptr = p; marker = record {}; alloc = record { memory = record { seal = tt } }; count = k } in
    use0 𝓛 (‵ ((BlockFields head heap.the_row ghosts).own_val (p, (record {}, tt)) (block_val p ∷ [])))
    (block_made head heap.the_row ghosts 𝓛 p) $ fjoin ! $
    all_spent ! 4 $
    returns ! (look_at ! 0 refl) $ free_all ! refl $ keep ! (2 ∷ 0 ∷ 1 ∷ []) $
    by ! (with_facts 𝓛 (_ ∷ []) (leave (block_val p) out (tt, (tt, (tt, (tt, tt))))) (id⊢ 𝓤 _) (refl, tt)))))))))
