-- `as_slice` shows the elements that are lent. Assumes `Logic`.
use Rattle.lhm_ring.proofs.Names.{ !, Args, InBlock, Lft, List, Ptr, RattleType, RawPtr, RefOf, Val, [], a_type, agg, alloc_all, and_then}
use Rattle.lhm_ring.proofs.Names.{ap, arith, block_of, block_ptr, by, count_of, drop, fact, feq_i, fhide, fjoin, flt_i, flt_l, free_all}
use Rattle.lhm_ring.proofs.Names.{fsplit, get, heard, hide, id⊢, in_block_says, inst_fn, join, keep, layouts, length, look_at, mem, move}
use Rattle.lhm_ring.proofs.Names.{no_more, of_opd, owns, param, pass_all, plain, ptr_val, raw, refl, returns, rewrite, sets, subst, sym}
use Rattle.lhm_ring.proofs.Names.{tables, types_at, unhide, use1, usize, vint, vptr, w64, yes, ‵, ℕ, ◌$◌, ◌*◌, ◌++◌, ◌<◌, ◌^◌, ◌∙◌, ◌∷◌}
use Rattle.lhm_ring.proofs.memory.ElementsOwned.{Owner, in_block-block}
use Rattle.lhm_ring.proofs.memory.Steps.{all_spent, dropped, gone, known, lives, runs_at, unblocks, walks, with_facts, ◌&◌}
use Rattle.lhm_ring.proofs.{Names.◌≡◌, bucket_block.Elements.as_slice.Statement.statement}
use denote.Slice.{elements_shared, slice_val}
use Rattle.lhm_ring.specs.contracts.bucket_block.Elements.as_slice.{clauses, ended, Key.name as #self}
use Rattle.lhm_ring.proofs.bucket_block.Elements.as_slice.Code as code

pub as_slice_spec : {M : Type 1} → statement M
as_slice_spec 𝓤 𝓛 𝓜 𝓡 wired X L =
    let H = 𝓛.H in let 𝓣 = tables 𝓤 H 𝓜 𝓡 𝓡.env in let args : Args = layouts (a_type ∷ []) (X, tt) in
    let R : RattleType = param 0 X in let S : RattleType = Owner R in
    let Self = RefOf (0 ∷ []) tt (plain (λ _. S)) (λ _. tt) in
    let En = ended X in let c = clauses X 𝓛 𝓜.mem 𝓡.returns in let fn = inst_fn args code.function in
    walks 𝓛 En c 𝓡 (dropped 𝓛 2 Self yes (λ κs x f. refl) & gone 𝓛 2 RawPtr yes (λ κs x f. refl) & gone 𝓛 2 usize yes (λ κs x f. refl) & tt)
    (#self args) fn (code.unfolded 𝓤 H 𝓜 𝓡 wired (X, tt)) (λ κs qs _ a vss _ are Post leave.
    let κ : Lft = κs.0 in let rb : ℕ = a.0.ref_ptr.0 in let ro : ℕ = a.0.ref_ptr.1 in
    let h : S.Denot = a.0.now in let p : Ptr = a.1.0 in let n : ℕ = a.1.1.0 in
    known 𝓛 (lives 1 κs qs) (owns (types_at En.signature.params κs) a vss) (_ ∷ (h.at ≡ p) ∷ (length h.items ≡ n) ∷ []) (λ req.
    let placed = req.1.0 in let long = req.1.1.0 in fsplit ! $ fsplit ! $ keep ! (1 ∷ 3 ∷ 4 ∷ []) $
    -- [what is lent; the token; the other token]
    unhide ! $ fsplit ! $ drop ! $ fsplit ! $ flt_l ! (λ fit. fsplit ! $
    use1 𝓛 (raw (fact 𝓤 (InBlock h.at))) (in_block_says 𝓛 h.at) $ heard ! (InBlock h.at) (λ in_block.
    fsplit ! $ drop ! $ hide ! $
    let b : ℕ = block_of p in let o : ℕ = count_of p in let place : ℕ × ℕ = (b, o) in
    let e : p ≡ block_ptr b o = in_block-block p (subst InBlock placed in_block) in
    let g : n < 2 ^ 64 = are.1.1.0.1 in
    rewrite ! 0 (λ (q : Ptr). ‵ (fhide (elements_shared R h.items (block_of q) (count_of q) κ))) placed refl $
    runs_at ! fn (vptr rb ro ∷ vptr b o ∷ vint w64 n ∷ [])
    (λ i. are.0.0 i ++ ((are.1.0 ∙ ap (λ (q : Ptr). ptr_val q ∷ []) e) i ++ (are.1.1.0.0 i ++ []))) $
    alloc_all ! (λ l. pass_all ! refl ((tt, tt), ((tt, tt), ((tt, record { fits = g }), tt))) $
    unblocks ! $ sets ! (agg ! (and_then ! (get ! refl) (and_then ! (get ! refl) (no_more !)))) refl (tt, (tt, (record { fits = g }, tt))) $
    sets ! (of_opd ! (get ! refl)) refl (tt, (tt, (record { fits = g }, tt))) $
    flt_i ! (length h.items * (mem R).size) (2 ^ 63) fit $ flt_i ! (length h.items) (2 ^ 64) (omega (arith, long, g)) $ fjoin ! $
    feq_i ! (List Val) (slice_val place n ∷ []) (slice_val place (length h.items) ∷ [])
    (ap (λ (k : ℕ). slice_val place k ∷ []) (sym long)) $ fjoin ! $ fjoin ! $
    -- [the result; the token; the other token]
    move ! (1 ∷ 2 ∷ []) $ join ! $ all_spent ! 3 $
    returns ! (look_at ! 0 refl) $ free_all ! refl $ keep ! (1 ∷ 0 ∷ 2 ∷ []) $
    by ! (with_facts 𝓛 (_ ∷ []) (leave (slice_val place n) (record { ref_ptr = place; now = h.items }) (tt, (tt, (tt, tt)))) (id⊢ 𝓤 _)
    (refl, tt)))))))
