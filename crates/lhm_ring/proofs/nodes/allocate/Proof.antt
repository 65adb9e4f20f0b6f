-- `allocate` asks for a block of many values. Assumes `Logic`.
use Rattle.lhm_ring.proofs.Names.{ !, Answer-typed, Answered, El, Err, Incl-trans, Lft, Ok, P, Ptr, R, RattleType, RefOf, Share, Struct}
use Rattle.lhm_ring.proofs.Names.{Struct-Makes, T, Takes, Takes-gives, Takes-goes, Ty, Val, WT, Wp, [], after, after_seq, agg, align}
use Rattle.lhm_ring.proofs.Names.{align-raw, align_word, alloc_all, and_then, answers, any_q, ap, args, arm_body, at_ret, at_return}
use Rattle.lhm_ring.proofs.Names.{at_takes, await, bin, block_ptr, by, calls_at, capped, capped_fits, capped_is, elτ, env, exec, false}
use Rattle.lhm_ring.proofs.Names.{first, fjoin, fjoin3, fld, flft, flt_i, framed, free_all, fsplit, get, get_in, get_tag, has_ty, head}
use Rattle.lhm_ring.proofs.Names.{id⊢, inst_fn, join, keep, lands_as, later, layout, lit, lit<, look_at, move, no_more, of_opd, one_below}
use Rattle.lhm_ring.proofs.Names.{owned, owns, pass_all, plain, raw, refl, returns, sets, sets_last, size-raw, size_lit, split, stop}
use Rattle.lhm_ring.proofs.Names.{switches_on, sz, tables, true, ty_array, types_at, use0, use1, use2, usize, vcons, vint, vnil, vptr}
use Rattle.lhm_ring.proofs.Names.{vstruct, w64, whole, wider, yes, ‵, ℕ, ◌$◌, ◌*◌, ◌++◌, ◌<◌, ◌^◌, ◌∙◌, ◌∷◌, ◌⊑◌, ◌⊛◌}
use Rattle.lhm_ring.proofs.memory.BlockValues.{BlockFields, BlockType, block_Good, block_made, block_val}
use Rattle.lhm_ring.proofs.memory.Steps.{all_spent, dropped, gone, known, lives, runs_at, walks, with_facts, ◌&◌}
use Rattle.lhm_ring.proofs.nodes.allocate.Statement.{statement}
use Rattle.std.proofs.ResultValues.{err_of, ok_of}
use denote.Laws.{Is}
use types.Match.{in_variant, live, vrt}
use Rattle.lhm_ring.specs.contracts.nodes.allocate.{clauses, ended, Key.name as #self}
use mir.{Raw.raw as bare, Syntax.Body}
use denote.Struct.Declared as Declared
use Rattle.std.specs.contracts.result.Result as RS
use Rattle.std.specs.contracts.alloc.AllocError as AE
use Rattle.lhm_ring.proofs.nodes.allocate.Code as code

pub allocate_spec : {M : Type 1} → statement M
allocate_spec 𝓤 𝓛 𝓜 𝓡 wired X Z L LZ g d dd met _ =
    let H = 𝓛.H in let 𝓣 = tables 𝓤 H 𝓜 𝓡 𝓡.env in let E : El =
    record { row = X; laws = L; al = record { row = Z; laws = LZ; g = g; d = d; drops = dd } } in
    let B : RattleType = BlockType (R E) (P E) E.al.g in
    let En = ended X Z g d dd in let c = clauses X Z g d dd 𝓛 𝓜.mem 𝓡.returns in let fn = inst_fn (args E) code.function in
    let handle = RefOf (0 ∷ []) tt (plain (λ _. P E)) (λ _. tt) in
    let Out : RattleType = RS.the_row B AE.the_row in
    walks 𝓛 En c 𝓡 (dropped 𝓛 3 handle yes (λ κs x f. refl) & gone 𝓛 3 usize yes (λ κs x f. refl) & tt) (#self (args E)) fn
    (code.unfolded 𝓤 H 𝓜 𝓡 wired (X, (Z, tt)) d dd) (λ κs qs bounds a vss _ are Post leave.
    let hp : ℕ × ℕ = a.0.ref_ptr in let heap : Z.Denot = a.0.now in let n : ℕ = a.1.0 in let κ : Lft = κs.0 in let q : Share = qs.0 in
    let τ : Ty = elτ E in let s : ℕ = sz E in let many : Ty = bare (ty_array τ n) in
    known 𝓛 (lives 2 κs qs) (owns (types_at En.signature.params κs) a vss) (_ ∷ (κs.1.1.0 ⊑ Z.lives) ∷ ((0 < n) × (n * s < 2 ^ 63)) ∷ [])
    (λ req. let inside = req.1.0 in let asked = req.1.1.0 in fsplit ! $ fsplit ! $ keep ! (1 ∷ 3 ∷ 4 ∷ []) $
    let fit : n * s < 2 ^ 63 = asked.1 in let fs : n * s < 2 ^ 64 = wider (n * s) fit in
    let tiny : s < 2 ^ 64 = one_below n s (2 ^ 64) asked.0 fs in let f₆₄ : n < 2 ^ 64 = are.1.0.1 in
    runs_at ! fn (vptr hp.0 hp.1 ∷ vint w64 n ∷ []) (λ i. are.0.0 i ++ (are.1.0.0 i ++ [])) $
    alloc_all ! (λ l. pass_all ! refl ((tt, tt), ((tt, record { fits = f₆₄ }), tt)) $
    let Ev = env fn.locals l in let both : Body = head (after 2 fn.body) in
    let Then = any_q (after_seq 𝓤 H (Wp 𝓤 H 𝓣.C 𝓣.Λ Ev (after 3 fn.body) (at_return 𝓤 H Ev Post)) (at_return 𝓤 H Ev Post)) in
    let Asked = Takes E.al 𝓛 𝓜.mem 𝓡.returns in let w : Asked.Ghost = at_takes E.al 𝓛 𝓜.mem 𝓡.returns κ q hp heap (n * s)
    (capped (align τ)) many in
    sets ! (bin ! (get ! refl) (size_lit ! (record { fits = tiny })) (record { fits = fs })) refl (tt, record { fits = fs }) $
    use2 𝓛 (raw (Asked.pre w)) (Takes-goes E.al 𝓛 𝓜.mem 𝓡.returns κ q hp heap (Incl-trans bounds.0 inside) (n * s) (capped (align τ)) many
    (ap capped (size-raw (ty_array τ n)) ∙ capped_is (n * s) fs) (ap capped (align-raw τ)) fs (capped_fits (align τ))) $
    calls_at ! (framed 𝓤 H 𝓜 𝓣) Asked (met.allocate dd) w
    (and_then ! (get ! refl) (and_then ! (get ! refl) (and_then ! (align_word !) (no_more !)))) (λ u.
    use1 𝓛 (later (raw (Answered E.al 𝓛 𝓜.mem 𝓡.returns heap many u) ⊛ ‵ (flft κ q)))
    (Takes-gives E.al 𝓛 𝓜.mem 𝓡.returns κ q hp heap (n * s) (capped (align τ)) many u) $ await ! tt $
    split ! $ move ! (1 ∷ 2 ∷ []) $ join ! $ move ! (1 ∷ []) $
    answers E.al ! 𝓜.mem 𝓡.returns heap many u
    (λ b o e. let p : Ptr = block_ptr b o in let r : B.Denot = record { ptr = p; marker = record {}; alloc = heap; count = n } in
    let val : Val = live 0 (vcons (block_val p) vnil) in
    let good : T (has_ty (layout Out) val) × WT val = (tt, (record { fits = lit< tt }, ((block_Good p).1, tt))) in
    lands_as ! e refl (Answer-typed true b o) $ first ! $ switches_on ! (get_tag ! (vrt ! refl (fld ! refl (stop !))) (whole !)) $
    exec ! 𝓣.C 𝓣.Λ Ev (arm_body 0 both) Then $
    sets ! (of_opd ! (get_in ! (vrt ! refl (fld ! refl (stop !))) (in_variant ! 0 0 refl refl (whole !)))) refl (tt, tt) $
    sets ! (of_opd ! (get ! refl)) refl (tt, tt) $ sets ! (agg ! (no_more !)) refl (tt, tt) $
    sets ! (agg ! (and_then ! (get ! refl) (and_then ! (get ! refl) (no_more !)))) refl (block_Good p) $
    sets_last ! (agg ! (and_then ! (lit ! tt) (and_then ! (get ! refl) (no_more !)))) refl good $
    exec ! 𝓣.C 𝓣.Λ Ev (after 3 fn.body) (at_ret Ev Post) $ sets ! (of_opd ! (get ! refl)) refl good $
    -- [the block; its token; the other tokens]
    flt_i ! (n * s) (2 ^ 63) fit $ move ! (0 ∷ 2 ∷ 1 ∷ []) $ fjoin3 ! $
    use0 𝓛 (‵ ((BlockFields (R E) (P E) E.al.g).own_val (p, (record {}, tt)) (block_val p ∷ [])))
    (block_made (R E) (P E) E.al.g 𝓛 p) $ fjoin ! $
    use1 𝓛 (‵ (Out.own_val (Ok r) (val ∷ []))) (ok_of 𝓛 B AE.the_row r (block_val p)) $
    all_spent ! 2 $ returns ! (look_at ! 0 refl) $ free_all ! refl $ keep ! (2 ∷ 0 ∷ 1 ∷ []) $
    by ! (with_facts 𝓛 (_ ∷ []) (leave val (Ok r) (tt, (tt, tt))) (id⊢ 𝓤 _) ((refl, refl), tt)))
    (λ e. let Refusal : RattleType = Struct (Declared.shape AE.the_type) in let val : Val = live 1 (vcons (vstruct vnil) vnil) in
    let good : T (has_ty (layout Out) val) × WT val = (tt, (record { fits = lit< tt }, (tt, tt))) in
    lands_as ! e refl (Answer-typed false 0 0) $ first ! $ switches_on ! (get_tag ! (vrt ! refl (fld ! refl (stop !))) (whole !)) $
    exec ! 𝓣.C 𝓣.Λ Ev (arm_body 1 both) Then $
    sets ! (of_opd ! (get_in ! (vrt ! refl (fld ! refl (stop !))) (in_variant ! 1 0 refl refl (whole !)))) refl (tt, tt) $
    sets_last ! (agg ! (and_then ! (lit ! tt) (and_then ! (get ! refl) (no_more !)))) refl good $
    exec ! 𝓣.C 𝓣.Λ Ev (after 3 fn.body) (at_ret Ev Post) $ sets ! (of_opd ! (get ! refl)) refl good $
    owned ! Refusal (Is Refusal) (Struct-Makes 𝓛 (Declared.shape AE.the_type) tt) tt (vstruct vnil ∷ []) (tt, (refl, tt)) $
    use1 𝓛 (‵ (Out.own_val (Err (record {})) (val ∷ []))) (err_of 𝓛 B AE.the_row (record {}) (vstruct vnil)) $
    all_spent ! 2 $ returns ! (look_at ! 0 refl) $ free_all ! refl $ keep ! (2 ∷ 0 ∷ 1 ∷ []) $
    by ! (with_facts 𝓛 (_ ∷ []) (leave val (Err (record {})) (tt, (tt, tt))) (id⊢ 𝓤 _) (tt, tt)))))))
