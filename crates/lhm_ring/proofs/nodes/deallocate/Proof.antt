-- `deallocate` gives a block back whose places are all joined. Assumes `Logic`.
use Rattle.lhm_ring.proofs.Names.{ !, El, Gives, Gives-Gives, Gives-goes, Incl-trans, Lft, List, P, Ptr, R, RefOf, Share, T, Ty, Val, WT}
use Rattle.lhm_ring.proofs.Names.{[], align, align-raw, align_word, alloc_all, and_then, ap, args, array_of, at_gives, await, bin, by}
use Rattle.lhm_ring.proofs.Names.{calls_at, capped, capped_fits, capped_is, elτ, emp, feq_i, fld, flft, flt_l, framed, free_all, froom}
use Rattle.lhm_ring.proofs.Names.{fsplit, fsplit3, get, get_in, given, group, has_ty, id⊢, in_a_block, inst_fn, is, join, keep, lands_as}
use Rattle.lhm_ring.proofs.Names.{later, learn, look_at, move, no, no_more, of_opd, one_below, owns, pass_all, plain, ptr_val, raw, refl}
use Rattle.lhm_ring.proofs.Names.{returns, rewrite, room_for, sets, size-raw, size_lit, stop, sub, subst, sym, sz, tables, ty_array}
use Rattle.lhm_ring.proofs.Names.{ty_unit, types_at, unit_lit, use0, use1, usize, vint, vptr, vunit, w64, whole, wider, yes, ‵, ℕ, ◌$◌}
use Rattle.lhm_ring.proofs.Names.{◌*◌, ◌++◌, ◌<◌, ◌^◌, ◌∙◌, ◌∷◌, ◌≡◌, ◌⊑◌}
use Rattle.lhm_ring.proofs.memory.BlockValues.{BlockType, block_Good, block_known, block_val}
use Rattle.lhm_ring.proofs.memory.Steps.{all_spent, dropped, gone, known, lives, runs_at, unblocks_call, unblocks_more, used, walks, ◌&◌}
use Rattle.lhm_ring.proofs.nodes.deallocate.Statement.{statement}
use Rattle.lhm_ring.specs.contracts.nodes.deallocate.{clauses, ended, Key.name as #self}
use mir.Raw.{raw as bare}
use Rattle.lhm_ring.proofs.nodes.deallocate.Code as code

pub deallocate_spec : {M : Type 1} → statement M
deallocate_spec 𝓤 𝓛 𝓜 𝓡 wired X Z L LZ g d dd met _ =
    let H = 𝓛.H in let 𝓣 = tables 𝓤 H 𝓜 𝓡 𝓡.env in let E : El =
    record { row = X; laws = L; al = record { row = Z; laws = LZ; g = g; d = d; drops = dd } } in
    let En = ended X Z g d dd in let c = clauses X Z g d dd 𝓛 𝓜.mem 𝓡.returns in let fn = inst_fn (args E) code.function in
    let Block = BlockType (R E) (P E) E.al.g in let handle = RefOf (0 ∷ []) tt (plain (λ _. P E)) (λ _. tt) in
    walks 𝓛 En c 𝓡 (dropped 𝓛 3 handle yes (λ κs x f. refl) & used 𝓛 3 Block no (λ κs x f. tt) & gone 𝓛 3 usize yes (λ κs x f. refl) & tt)
    (#self (args E)) fn (code.unfolded 𝓤 H 𝓜 𝓡 wired (X, (Z, tt)) d dd) (λ κs qs bounds a vss _ are Post leave.
    let hp : ℕ × ℕ = a.0.ref_ptr in let heap : Z.Denot = a.0.now in let κ : Lft = κs.0 in
    let q : Share = qs.0 in let r = a.1.0 in let n : ℕ = a.1.1.0 in
    let τ : Ty = elτ E in let s : ℕ = sz E in let many : Ty = bare (ty_array τ n) in
    known 𝓛 (lives 2 κs qs) (owns (types_at En.signature.params κs) a vss)
    (_ ∷ (κs.1.1.0 ⊑ Z.lives) ∷ (r.alloc ≡ heap) ∷ (r.count ≡ n) ∷ (0 < n) ∷ []) (λ req.
    let inside = req.1.0 in let from = req.1.1.0 in let counted = req.1.1.1.0 in let some = req.1.1.1.1.0 in fsplit3 ! $ fsplit ! $
    keep ! (2 ∷ 1 ∷ 4 ∷ 5 ∷ []) $
    -- [the block; the handle; its token; the other tokens]
    block_known (R E) (P E) E.al.g ! r vss.1.0 (λ told.
    fsplit3 ! $ flt_l ! (λ fit₀. let fit : n * s < 2 ^ 63 = subst (λ (m : ℕ). m * s < 2 ^ 63) counted fit₀ in
    let fs : n * s < 2 ^ 64 = wider (n * s) fit in let tiny : s < 2 ^ 64 = one_below n s (2 ^ 64) some fs in
    let fn64 : n < 2 ^ 64 = are.1.1.0.1 in
    -- [the token of the block; its places; the handle; ..]
    move ! (1 ∷ []) $ in_a_block ! r.ptr (λ q. room_for (array_of (R E) r.count) q) (id⊢ 𝓤 _) (λ b o e.
    rewrite ! 0 (λ (m : ℕ). ‵ (froom (bare (ty_array τ m)) b o)) counted refl $
    rewrite ! 1 (λ (z : ℕ × Z.Denot × Ptr). ‵ (g.dealloc_token z.1 (array_of (R E) z.0) z.2)) (λ i. (counted i, from i, e i)) refl $
    runs_at ! fn (vptr hp.0 hp.1 ∷ block_val r.ptr ∷ vint w64 n ∷ []) (λ i. are.0.0 i ++ (told i ++ (are.1.1.0.0 i ++ []))) $
    alloc_all ! (λ l. pass_all ! refl ((tt, tt), (block_Good r.ptr, ((tt, record { fits = fn64 }), tt))) $
    -- [the block; its token; the handle; the token of its lifetime; the other tokens]
    sets ! (is ! (of_opd ! (get_in ! (fld ! refl (stop !)) (sub ! 0 refl (whole !)))) (ap ptr_val e)) refl (tt, tt) $
    unblocks_more ! $ sets ! (of_opd ! (get ! refl)) refl (tt, tt) $
    unblocks_more ! $ sets ! (bin ! (get ! refl) (size_lit ! (record { fits = tiny })) (record { fits = fs })) refl
    (tt, record { fits = fs }) $
    let Gone = Gives E.al 𝓛 𝓜.mem 𝓡.returns in
    let w : Gone.Ghost = at_gives E.al 𝓛 𝓜.mem 𝓡.returns κ q hp heap b o (n * s) (capped (align τ)) many in
    group ! 4 $ use1 𝓛 (raw (Gone.pre w)) (Gives-goes E.al 𝓛 𝓜.mem 𝓡.returns κ q hp heap (Incl-trans bounds.0 inside) b o (n * s)
    (capped (align τ)) many (ap capped (size-raw (ty_array τ n)) ∙ capped_is (n * s) fs) (ap capped (align-raw τ)) fs
    (capped_fits (align τ))) $ unblocks_call ! $ calls_at ! (framed 𝓤 H 𝓜 𝓣) Gone (met.deallocate dd) w
    (and_then ! (get ! refl) (and_then ! (get ! refl) (and_then ! (get ! refl) (and_then ! (align_word !) (no_more !))))) (λ v.
    use1 𝓛 (later (given (v ≡ vunit) (‵ (flft κ q))))
    (Gives-Gives E.al 𝓛 𝓜.mem 𝓡.returns κ q hp heap b o (n * s) (capped (align τ)) many v) $ await ! tt $ learn ! (λ is_unit.
    lands_as ! refl refl (subst (λ (z : Val). T (has_ty ty_unit z) × WT z) (sym is_unit) (tt, tt)) $
    sets ! (of_opd ! (unit_lit !)) refl (tt, tt) $
    move ! (0 ∷ 1 ∷ []) $ join ! $ feq_i ! (List Val) (vunit ∷ []) (vunit ∷ []) refl $ all_spent ! 3 $
    returns ! (look_at ! 0 refl) $ free_all ! refl $ use0 𝓛 (raw (emp 𝓤)) (id⊢ 𝓤 (emp 𝓤)) $ keep ! (3 ∷ 1 ∷ 2 ∷ 0 ∷ []) $
    by ! (leave vunit tt (tt, (tt, (tt, tt)))).prf))))))))
