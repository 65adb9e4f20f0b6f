-- `split_block` gives the memory of a block to two vectors. Assumes `Logic`.
use Rattle.lhm_ring.proofs.Names.{ !, Fml, Lodged, Ptr, RattleType, Val, Vec, [], after, agg, alive, alloc_all, and_then, ap, arith}
use Rattle.lhm_ring.proofs.Names.{array_of, as_fields, at_ret, await, bin, block_dealloc, block_heads, block_ptr, blocks, by, calls_at}
use Rattle.lhm_ring.proofs.Names.{chunk_token, env, exec, first, fjoin, fld, flt_i, flt_l, framed, free_all, fsplit, fsplit3, fwand, get}
use Rattle.lhm_ring.proofs.Names.{get_in, given, id⊢, in_a_block, is, is_live, keep, lands_as, later, layout, learn, lit, lodged, look_at}
use Rattle.lhm_ring.proofs.Names.{move, no_more, of_opd, only, owns, owns_if, param, parts_own, pass_all, pick, ptr_val, raw, refl}
use Rattle.lhm_ring.proofs.Names.{returns, rewrite, room_for, sets, sets_last, some, split, stop, sub, subst, sym, tables, timeless}
use Rattle.lhm_ring.proofs.Names.{timeless_laws, types_at, use1, usize, vcons, vint, vnil, vstruct, w64, whole, yes, ‵, ℕ, ◌$◌, ◌*◌, ◌++◌}
use Rattle.lhm_ring.proofs.Names.{◌+◌, ◌-◌, ◌<◌, ◌^◌, ◌∙◌, ◌∷◌, ◌≡◌, ◌≤◌, ◌⊛◌}
use Rattle.lhm_ring.proofs.bucket_block.split_block.Statement.{statement}
use Rattle.lhm_ring.proofs.indexes.BlockSizes.{block_heads-enough, block_heads-roomy}
use Rattle.lhm_ring.proofs.memory.BlockValues.{BlockType, block_Good, block_known, block_val}
use Rattle.lhm_ring.proofs.memory.BucketParts.{block_parts, head₀, head₀-laws, word₀, word₀-laws}
use Rattle.lhm_ring.proofs.memory.Lodging.{IsLodged, Lodges, Lodging, at_lodge, lodge_gives, lodge_goes, lodging_laws, none_made}
use Rattle.lhm_ring.proofs.memory.Lodging.{row_of_room, tells, three_made}
use Rattle.lhm_ring.proofs.memory.Steps.{all_spent, gone, known, runs_at, used, walks, with_facts, ◌&◌}
use Rattle.std.specs.contracts.impls.GlobalAllocator.TheImpl.{ghosts}
use denote.Param.Laws.{Laws, param_laws}
use Rattle.lhm_ring.specs.contracts.bucket_block.{Dealloc.the_row as dealloc, Head.the_row as head, Word.the_row as word}
use Rattle.lhm_ring.specs.contracts.bucket_block.split_block.{clauses, ended, Key.name as #self}
use Rattle.std.specs.contracts.alloc.Global as heap
use Rattle.std_alloc.proofs.vec.lodge.Met as lodge_met
use Rattle.lhm_ring.proofs.bucket_block.Head.TheLaws as head-laws
use Rattle.lhm_ring.proofs.bucket_block.Word.TheLaws as word-laws
use Rattle.lhm_ring.proofs.bucket_block.split_block.Code as code

abbrev Block : RattleType
Block = BlockType head heap.the_row ghosts

abbrev laws_of : (Y : RattleType) → Laws Y → Laws (Lodging (param 0 Y))
laws_of Y L = lodging_laws (param 0 Y) (param_laws 0 Y L)

pub split_block_spec : {M : Type 1} → statement M
split_block_spec 𝓤 𝓛 𝓜 𝓡 wired =
    let H = 𝓛.H in let 𝓣 = tables 𝓤 H 𝓜 𝓡 𝓡.env in
    let lodges = λ (Y : RattleType) (L : Laws Y). lodge_met.met 𝓤 𝓛 𝓜 𝓡 (code.calls-std_alloc::vec::lodge 𝓡.env wired) (timeless Y)
    (timeless_laws Y L) in
    walks 𝓛 ended (clauses 𝓛 𝓜.mem 𝓡.returns) 𝓡 (used 𝓛 0 Block yes (λ κs x f. tt) & gone 𝓛 0 usize yes (λ κs x f. refl) & tt)
    #self code.function (code.unfolded 𝓤 H 𝓜 𝓡 wired) (λ κs qs _ a vss _ are Post leave.
    let r = a.0 in let m : ℕ = a.1.0 in
    let k : ℕ = block_heads m in
    known 𝓛 (raw (alive 𝓛 ended.signature κs qs) ∷ []) (owns (types_at ended.signature.params κs) a vss) ((0 < m) ∷ (r.count ≡ k) ∷ [])
    (λ req. let roomy = req.0 in let counted = req.1.0 in fsplit ! $
    block_known head heap.the_row ghosts ! r vss.0 (λ told. fsplit3 ! $ flt_l ! (λ fit₀.
    let fit : k * 8 < 2 ^ 63 = subst (λ (j : ℕ). j * 8 < 2 ^ 63) counted fit₀ in
    let le : m ≤ k = block_heads-enough m in let fits : m ≤ 4 * (k - m) = block_heads-roomy m in
    let f₆₄ : m < 2 ^ 64 = are.1.0.1 in
    -- [the token; the memory; ..; what is alive]
    keep ! (1 ∷ 0 ∷ 3 ∷ []) $
    in_a_block ! r.ptr (λ p. room_for (array_of head r.count) p) (id⊢ 𝓤 _) (λ b o e.
    let p : Ptr = block_ptr b o in
    rewrite ! 0 (λ (j : ℕ). ‵ (room_for (array_of head j) p)) counted refl $
    rewrite ! 1 (λ (z : ℕ × Ptr). ‵ (chunk_token (array_of head z.0) z.1)) (λ i. (counted i, e i)) refl $
    let Back : Fml = fwand (parts_own p m) (room_for (array_of head k) p) in
    use1 𝓛 (‵ (parts_own p m) ⊛ ‵ Back) (block_parts 𝓛 b o m k le fits) $ split ! $ fsplit ! $
    -- [the heads' memory; the words' memory; that they join; the token; what is alive]
    move ! (3 ∷ 2 ∷ []) $ fjoin ! $ flt_i ! (k * 8) (2 ^ 63) fit $ fjoin ! $
    rewrite ! 0 (λ z. ‵ (owns_if z (block_dealloc p m k))) (sym (is_live m roomy)) refl $
    -- [the right to free; the heads' memory; the words' memory; what is alive]
    let at : ℕ = o + m * 8 in let at' : ℕ = m * 8 + o in
    let moved : at ≡ at' = omega arith in
    let small : m < 2 ^ 63 = omega (arith, le, fit) in
    let f₈ : m * 8 < 2 ^ 64 = omega (arith, le, fit) in
    move ! (1 ∷ []) $ use1 𝓛 (‵ (lodged (param 0 head) p 0 m []))
    (row_of_room head head-laws.the_row_laws 𝓛 b o m roomy (omega (arith, le, fit))) $
    move ! (2 ∷ []) $ use1 𝓛 (‵ (lodged (param 0 word) (block_ptr b at) 0 m []))
    (row_of_room word word-laws.the_row_laws 𝓛 b at m roomy (omega (arith, le, fit))) $
    rewrite ! 0 (λ (j : ℕ). ‵ (lodged (param 0 word) (block_ptr b j) 0 m [])) moved refl $
    move ! (1 ∷ []) $
    -- [the heads; the words; the right to free; what is alive]
    let of_heads = Lodges head₀ 𝓛 𝓜.mem 𝓡.returns in let of_words = Lodges word₀ 𝓛 𝓜.mem 𝓡.returns in
    let yh = at_lodge head₀ 𝓛 𝓜.mem 𝓡.returns b o 0 m [] in let yw = at_lodge word₀ 𝓛 𝓜.mem 𝓡.returns b at' 0 m [] in
    runs_at ! code.function (block_val r.ptr ∷ vint w64 m ∷ []) (λ i. told i ++ (are.1.0.0 i ++ [])) $
    alloc_all ! (λ l. pass_all ! refl (block_Good r.ptr, ((tt, record { fits = f₆₄ }), tt)) $ let Ev = env (code.function).locals l in
    sets ! (is ! (of_opd ! (get_in ! (fld ! refl (stop !)) (sub ! 0 refl (whole !)))) (ap ptr_val e)) refl (tt, tt) $
    first ! $ blocks ! $
    use1 𝓛 (raw (of_heads.pre yh)) (lodge_goes head₀ 𝓛 𝓜.mem 𝓡.returns b o 0 m [] refl (omega arith) small) $
    calls_at ! (framed 𝓤 H 𝓜 𝓣) of_heads (lodges head₀ head₀-laws) yh
    (and_then ! (get ! refl) (and_then ! (lit ! tt) (and_then ! (get ! refl) (no_more !)))) (λ u.
    use1 𝓛 (later (some (λ (hs : Vec head₀.Denot Lodged). given (IsLodged head₀ 𝓛 𝓜.mem 𝓡.returns b o 0 m [] hs)
    (‵ ((Lodging (param 0 head₀)).own_val hs (u ∷ []))))))
    (lodge_gives head₀ 𝓛 𝓜.mem 𝓡.returns b o 0 m [] u) $ await ! tt $ pick ! (λ hs. learn ! (λ ih.
    tells ! (Lodging (param 0 head₀)) (laws_of head₀ head₀-laws) hs (u ∷ []) (λ vh eh gh. lands_as ! (ap only eh) refl gh $
    move ! (1 ∷ []) $
    sets ! (bin ! (get ! refl) (lit ! tt) (record { fits = f₈ })) refl (tt, record { fits = f₈ }) $
    sets ! (bin ! (get ! refl) (get ! refl) tt) refl (tt, tt) $ sets ! (of_opd ! (get ! refl)) refl (tt, tt) $
    use1 𝓛 (raw (of_words.pre yw)) (lodge_goes word₀ 𝓛 𝓜.mem 𝓡.returns b at' 0 m [] refl (omega arith) small) $
    calls_at ! (framed 𝓤 H 𝓜 𝓣) of_words (lodges word₀ word₀-laws) yw
    (and_then ! (get ! refl) (and_then ! (lit ! tt) (and_then ! (get ! refl) (no_more !)))) (λ v.
    use1 𝓛 (later (some (λ (ws : Vec word₀.Denot Lodged). given (IsLodged word₀ 𝓛 𝓜.mem 𝓡.returns b at' 0 m [] ws)
    (‵ ((Lodging (param 0 word₀)).own_val ws (v ∷ []))))))
    (lodge_gives word₀ 𝓛 𝓜.mem 𝓡.returns b at' 0 m [] v) $ await ! tt $ pick ! (λ ws. learn ! (λ iw.
    tells ! (Lodging (param 0 word₀)) (laws_of word₀ word₀-laws) ws (v ∷ []) (λ vw ew gw. lands_as ! (ap only ew) refl gw $
    let none : Val = vstruct vnil in
    let all : Val = vstruct (vcons vh (vcons vw (vcons none vnil))) in
    let good = as_fields (layout (Lodging head) ∷ layout (Lodging word) ∷ layout dealloc ∷ []) (vh ∷ vw ∷ none ∷ [])
    (gh, (gw, ((tt, tt), tt))) in
    let out : dealloc.Denot = record { at = p; count = m } in
    sets ! (of_opd ! (get ! refl)) refl gh $ sets ! (of_opd ! (get ! refl)) refl gw $ sets ! (agg ! (no_more !)) refl (tt, tt) $
    sets_last ! (agg ! (and_then ! (get ! refl) (and_then ! (get ! refl) (and_then ! (get ! refl) (no_more !))))) refl good $
    exec ! 𝓣.C 𝓣.Λ Ev (after 2 (code.function).body) (at_ret Ev Post) $ sets ! (of_opd ! (get ! refl)) refl good $
    -- [the words; the heads; the right to free; what is alive]
    move ! (2 ∷ []) $ none_made ! $ fjoin ! $ move ! (2 ∷ 1 ∷ 0 ∷ []) $
    three_made ! (Lodging head) (Lodging word) dealloc hs ws out vh vw none $
    all_spent ! 2 $
    returns ! (look_at ! 0 refl) $ free_all ! refl $ keep ! (2 ∷ 0 ∷ 1 ∷ []) $
    by ! (with_facts 𝓛 (_ ∷ _ ∷ _ ∷ _ ∷ []) (leave all (hs, ws, out) (tt, (tt, tt))) (id⊢ 𝓤 _)
    ((ih.0, ih.1, ih.2), ((iw.0, iw.1, iw.2), (refl, ((ih.3, iw.3 ∙ ap (λ (j : ℕ). block_ptr b j) (sym moved)), tt)))))))))))))))))))
