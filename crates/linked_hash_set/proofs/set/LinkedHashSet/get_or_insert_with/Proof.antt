-- `get_or_insert_with` inserts by `put_with`, and hands on what `back_or` returns. By hand, since the
-- borrow checker proves no loan whose result may own memory.
use mathlib.Core.{Path.subst, List.◌++◌}
use base.Fml.{Incl-trans, ftrue, flft, fres}
use base.Logic.{ent, emp, id⊢}
use contract.BorrowLft.{◌⊑◌, meet_⊑_left, meet_⊑_right}
use contract.Fact.{fact_i}
use contract.Monad.{fact}
use contract.Running.{tables}
use mir.MapTy.{inst_fn}
use mir.Syntax.{Args, Fn, a_type, dcons, dnil, named}
use mir.Val.{Val, has_ty, WT}
use lib.Dec.{T}
use prog.Wp.{WpFn}
use types.Kit.{‵, raw, ◌⊛◌, some, later, ◌$◌, ◌∵◌, !, qed, move, keep, drop, use0, use1, use2, use3, split, fsplit, fjoin, join, pick}
use types.Kit.{await, suffices, frame, group, by}
use types.Run.{enter, addr, stop, no_more, and_then, returns, of_opd}
use types.ByLocal.{alloc_all, pass_all, free_all, look_at, get, through, sets, lands_as}
use denote.Exit.{no}
use denote.Laws.{Is, Typed, shows}
use denote.Param.{bounded, copied, layout, param}
use denote.Param.{Laws.copied_laws, Laws.param_laws, Laws.of_field, Shared.copy_shared}
use denote.RattleType.{RattleType}
use denote.Ref.{Bor, ShrRef, NamedLft, mut_vals, mut_Tells}
use denote.Shares.{Shares-less}
use denote.Signature.{mut_ref_to, plain}
use denote.Steps.{nothing, heard, peeks, only}
use denote.Struct.{Field.shr_ref_field, Laws.shr_ref_laws, Laws.shr_ref_copy}
use denote.Triple.Walked.{Stays, walk_of, stay_dropped, Goes-dropped, Goes-spent_ref, ends_at}
use denote.Triple.{Call.calls_at, Clauses.Ended, Clauses.Lasts, Clauses.lasts, Entry.on_entry, Spec.triple_of, Table.framed}
use Rattle.std.proofs.Common.{◌≡◌, List, [], ◌∷◌, ◌∙◌, refl, sym, rules}
use Rattle.std.proofs.{option.Option.TheLaws.the_row_laws as option_laws, result.Result.TheLaws.the_row_laws as result_laws}
use Rattle.std.proofs.{raw_atomic.Walks.proved_at}
use Rattle.std.specs.Prelude.{true, false, unwrap_or, Option, Some, None, Result, Ok, Err, OnErr, IfNone, IfOk, IfErr, IsSome, MatchResult}
use Rattle.std.specs.contracts.option.Option as option
use Rattle.std.specs.contracts.result.Result as result
use Rattle.std.specs.HashMap.Lent.{HashMembers}
use Rattle.linked_hash_map.specs.Pairs.{last}
use Rattle.linked_hash_set.specs.Items.{contains, find}
use Rattle.linked_hash_set.specs.{Inserts.RefreshedOrMade, Lends.ends_so, LinkedSet.LinkedSet, declared.error.Refused.Refused}
use Rattle.linked_hash_set.specs.contracts.set.LinkedHashSet as set
use Rattle.linked_hash_set.specs.contracts.error.Refused as refused
use Rattle.linked_hash_set.specs.contracts.set.LinkedHashSet.get_or_insert_with as f
use Rattle.linked_hash_set.specs.contracts.set.LinkedHashSet.put_with as g
use Rattle.linked_hash_set.specs.contracts.set.LinkedHashSet.back_or as h
use Rattle.linked_hash_set.proofs.BackOr.{Lone-is, weaker, shared, Found, Kept, Back, ends_as, at_none, is_stored, is_refused, some-inj}
use Rattle.linked_hash_set.proofs.error.Refused.TheLaws.{the_row_laws as refused_laws}
use Rattle.linked_hash_set.proofs.set.LinkedHashSet.TheLaws.{the_row_laws as set_laws, the_within as set_within}
use Rattle.linked_hash_set.proofs.set.LinkedHashSet.put_with.Met as put_with
use Rattle.linked_hash_set.proofs.set.LinkedHashSet.back_or.Met as back_or
use Rattle.linked_hash_set.proofs.set.LinkedHashSet.get_or_insert_with.Statement.{statement}
use Rattle.linked_hash_set.proofs.set.LinkedHashSet.get_or_insert_with.Code as code

-- what is made of the item is at the back
is_made : {X S : Type 0} (e : Option X) (x : Result (Bor X) (Refused X)) (new : LinkedSet X S) (Absent : Type 0)
    (Makes : X → Type 0) (stored : X → X)
    → IfNone e (Absent → (made : X) × Makes made × (last new.items ≡ Some (stored made)))
    → Found e x new → IfOk x (λ at_back. Absent → (made : X) × Makes made × (at_back.now ≡ stored made))
is_made None (Ok r) new Absent Makes stored said ok =
    λ absent. let k = said absent in (k.0, k.1, some-inj (sym ok.1 ∙ k.2))
is_made (Some k) (Ok r) new Absent Makes stored said ok = search rules
is_made e (Err r) new Absent Makes stored said ok = tt

-- of an item that is handed back both are true
both_of : {X Y : Type 0} (x : Result Y (Refused X)) (P Q : X → Type 0)
    → IfErr x (λ refused. P refused.item × Q refused.item)
    → IfErr x (λ refused. P refused.item) × IfErr x (λ refused. Q refused.item)
both_of (Ok r) P Q said = (tt, tt)
both_of (Err r) P Q said = said

pub get_or_insert_with_spec : {M : Type 1} → statement M
get_or_insert_with_spec 𝓤 𝓛 𝓜 𝓡 wired X S H Q F LX LS LH LQ LF CQ
    b₀ d₀ b₁ d₁ b₂ d₂ b₃ d₃ b₄ d₄ d₅ b₆ d₆ b₇ d₇ b₈ d₈ b₉ d₉ b₁₀ d₁₀ b₁₁ d₁₁ d₁₂ d₁₃
    m₀ m₁ m₂ m₃ m₄ m₅ m₆ m₇ m₈ m₉ m₁₀ m₁₁ m₁₂ m₁₃ =
    let En : Ended = f.ended X S H Q F b₀ d₀ b₁ d₁ b₂ d₂ b₃ d₃ b₄ d₄ d₅ b₆ d₆ b₇ d₇ b₈ d₈ b₉ d₉ b₁₀ d₁₀ b₁₁ d₁₁ d₁₂ d₁₃ in
    let P : RattleType = param 0 X in let Item : RattleType = copied 3 Q in let Make : RattleType = param 4 F in
    let Whole : RattleType = set.the_row P (param 1 S) (param 2 H) b₁ b₂ b₃ b₄ in
    let hs : Stays En.signature.params En.kept = (
      stay_dropped (mut_ref_to (0 ∷ []) tt (plain (λ _. Whole))) no,
      (stay_dropped (plain (λ _. Item)) no, (stay_dropped (plain (λ _. Make)) no, tt)),
    ) in
    let c = f.clauses X S H Q F b₀ d₀ b₁ d₁ b₂ d₂ b₃ d₃ b₄ d₄ d₅ b₆ d₆ b₇ d₇ b₈ d₈ b₉ d₉ b₁₀ d₁₀ b₁₁ d₁₁ d₁₂ d₁₃ 𝓛 𝓜.mem 𝓡.returns in
    let W = walk_of 𝓛 En hs c in let 𝓣 = tables 𝓤 𝓛.H 𝓜 𝓡 𝓡.env in
    let args : Args = bounded (a_type ∷ a_type ∷ a_type ∷ a_type ∷ a_type ∷ []) (X, (S, (H, (Q, (F, tt)))))
    (dcons d₀ (dcons d₁ (dcons d₂ (dcons d₃ (dcons d₄ (dcons d₅ (dcons d₆ (dcons d₇ (dcons d₈ (dcons d₉ (dcons d₁₀
    (dcons d₁₁ (dcons d₁₂ (dcons d₁₃ dnil)))))))))))))) in let fn : Fn = inst_fn args code.function in
    let members : HashMembers X.Denot = record { eq = b₁.eq; hash_input = b₂.hash_input } in
    proved_at 𝓛 En hs c 𝓜 𝓡 (
      Goes-spent_ref 𝓛 6 (0 ∷ []) tt (plain (λ _. Whole)),
      (Goes-dropped 𝓛 6 (plain (λ _. Item)) no (λ κs x w. refl), (Goes-dropped 𝓛 6 (plain (λ _. Make)) no (λ κs x w. refl), tt)),
    )
    (f.Key.name args) fn (code.unfolded 𝓤 𝓛.H 𝓜 𝓡 wired (X, (S, (H, (Q, (F, tt)))))
    d₀ d₁ d₂ d₃ d₄ d₅ d₆ d₇ d₈ d₉ d₁₀ d₁₁ d₁₂ d₁₃) (λ y are.
    let κs = y.0.0 in let qs = y.0.1 in let bounds = y.0.2 in let a = y.0.3 in let vss = y.0.4 in
    let κ = κs.0 in let κX = κs.1.0 in let κS = κs.1.1.0 in let κH = κs.1.1.1.0 in
    let κQ = κs.1.1.1.1.0 in let κF = κs.1.1.1.1.1.0 in
    let q = qs.0 in let qX = qs.1.0 in let qS = qs.1.1.0 in let qH = qs.1.1.1.0 in
    let qQ = qs.1.1.1.1.0 in let qF = qs.1.1.1.1.1.0 in
    let s = a.0 in let item = a.1.0 in let make = a.1.1.0 in let γ = s.ghost_name in let b = s.ref_ptr.0 in let o = s.ref_ptr.1 in
    let vs = mut_vals s in let u : Val = only vss.1.0 in let t₀ : Val = only vss.1.1.0 in
    let at : vss.0 ≡ vs = mut_Tells (named 0) κ Whole s vss.0 are.0 in
    let is : vss.1.0 ≡ u ∷ [] = Lone-is vss.1.0 ((copied_laws 3 Q LQ).single item vss.1.0 are.1.0) in
    let held : vss.1.1.0 ≡ t₀ ∷ [] = Lone-is vss.1.1.0 ((param_laws 4 F LF).single make vss.1.1.0 are.1.1.0) in
    let tu : T (has_ty (layout Q) u) × WT u = (subst (Typed (layout Q
    ∷ [])) is (((copied_laws 3 Q LQ).lawful 𝓛).typed item vss.1.0 are.1.0)).0 in
    let tt₀ : T (has_ty (layout F) t₀) × WT t₀ = (subst (Typed (layout F
    ∷ [])) held (((param_laws 4 F LF).lawful 𝓛).typed make vss.1.1.0 are.1.1.0)).0 in
    let At : List Val → List Val → List Val → W.Ghost = λ us ws fs. ((κs, qs, bounds, a, (us, (ws, (fs, tt)))), y.1) in
    let Goes : List Val → List Val → List Val → Type 1 = λ us ws fs. ent 𝓤 (W.pre (At us ws fs))
    (WpFn 𝓤 𝓛.H 𝓣.C 𝓣.Λ fn (us ++ (ws ++ (fs ++ []))) (W.post (At us ws fs))) in
    let eqv = b₆.equivalent in let Makes = λ (made : X.Denot). b₁₁.post make (item, tt) made in
    let Absent : Type 0 = contains eqv s.now.items item ≡ false in let Present : Type 0 = contains eqv s.now.items item ≡ true in
    let needs : Type 0 = Absent → b₁₁.pre make (item, tt) in
    let New : X.Denot → Type 0 = λ made. contains b₁.eq s.now.items made ≡ false in
    let Hands : X.Denot → Type 0 = λ made. Makes made × New made in
    let stored = λ (made : X.Denot). unwrap_or (find b₁.eq s.now.items made) made in
    let Now = RefreshedOrMade eqv b₁.eq Makes item s.now in
    let x-lives = κX ⊑ X.lives in let s-lives = κS ⊑ S.lives in let h-lives = κH ⊑ H.lives in
    let q-lives = κQ ⊑ Q.lives in let f-lives = κF ⊑ F.lives in
    let Put : Ended = g.ended X S H Q F b₀ d₀ b₁ d₁ b₂ d₂ b₃ d₃ b₄ d₄ d₅ b₆ d₆ b₇ d₇ b₈ d₈ b₉ d₉ b₁₀ d₁₀ b₁₁ d₁₁ d₁₂ d₁₃ in
    let G = triple_of 𝓛 Put.signature (g.spec X S H Q F b₀ d₀ b₁ d₁ b₂ d₂ b₃ d₃ b₄ d₄ d₅ b₆ d₆ b₇ d₇ b₈ d₈ b₉ d₉ b₁₀ d₁₀ b₁₁ d₁₁ d₁₂ d₁₃
    𝓛 𝓜.mem 𝓡.returns) in
    let z : G.Ghost = ((κs, qs, bounds, a, (vs, (u ∷ [], (t₀ ∷ [], tt)))), tt) in
    let walk : Goes vs (u ∷ []) (t₀ ∷ []) =
    qed 𝓛 (raw (on_entry 𝓛 En.signature κs qs a (vs, (u ∷ [], (t₀ ∷ [], tt))))
    ∷ (raw (fact 𝓤 x-lives) ⊛ raw (fact 𝓤 s-lives) ⊛ raw (fact 𝓤 h-lives) ⊛ raw (fact 𝓤 q-lives) ⊛ raw (fact 𝓤 f-lives)
    ⊛ raw (fact 𝓤 needs)) ∷ []) ∵
    move ! (1 ∷ []) $ split ! $ heard ! _ (λ x-within. split ! $ heard ! _ (λ s-within. split ! $ heard ! _ (λ h-within.
    split ! $ heard ! _ (λ q-within. split ! $ heard ! _ (λ f-within. heard ! _ (λ given.
    use0 𝓛 (raw (fact 𝓤 needs)) (fact_i 𝓤 needs (emp 𝓤) given) $
    use0 𝓛 (raw (fact 𝓤 f-lives)) (fact_i 𝓤 f-lives (emp 𝓤) f-within) $ join ! $
    use0 𝓛 (raw (fact 𝓤 q-lives)) (fact_i 𝓤 q-lives (emp 𝓤) q-within) $ join ! $
    use0 𝓛 (raw (fact 𝓤 h-lives)) (fact_i 𝓤 h-lives (emp 𝓤) h-within) $ join ! $
    use0 𝓛 (raw (fact 𝓤 s-lives)) (fact_i 𝓤 s-lives (emp 𝓤) s-within) $ join ! $
    use0 𝓛 (raw (fact 𝓤 x-lives)) (fact_i 𝓤 x-lives (emp 𝓤) x-within) $ join ! $
    move ! (1 ∷ 0 ∷ []) $ use2 𝓛 (raw (G.pre z)) (id⊢ 𝓤 _) $
    enter ! _ _ _ _ _ $ alloc_all ! (λ l. pass_all ! refl ((tt, tt), (tu, (tt₀, tt))) $
    sets ! (addr ! (through ! refl (stop !))) refl (tt, tt) $ sets ! (of_opd ! (get ! refl)) refl tt₀ $
    calls_at ! (framed 𝓤 𝓛.H 𝓜 𝓣) G (put_with.met 𝓤 𝓛 𝓜 𝓡 (code.calls-linked_hash_set::set::LinkedHashSet::put_with 𝓡.env wired)
    X S H Q F LX LS LH LQ LF CQ b₀ d₀ b₁ d₁ b₂ d₂ b₃ d₃ b₄ d₄ d₅ b₆ d₆ b₇ d₇ b₈ d₈ b₉ d₉ b₁₀ d₁₀ b₁₁ d₁₁ d₁₂ d₁₃
    m₀ m₁ m₂ m₃ m₄ m₅ m₆ m₇ m₈ m₉ m₁₀ m₁₁ m₁₂ m₁₃) z
    (and_then ! (get ! refl) (and_then ! (get ! refl) (and_then ! (get ! refl) (no_more !)))) (λ v.
    let Handed : RattleType = option.the_row P in
    use1 𝓛 (later (some (λ (e : Handed.Denot).
    ((‵ (flft κ q) ⊛ ‵ (flft κX qX) ⊛ ‵ (flft κS qS) ⊛ ‵ (flft κH qH) ⊛ ‵ (flft κQ qQ) ⊛ ‵ (flft κF qF) ⊛ ‵ ftrue)
    ⊛ ‵ (Handed.own_val e (v ∷ []))) ⊛
    some (λ (ws : Lasts Put z.0.0 z.0.3). ‵ (lasts Put z.0.0 z.0.3 ws)
    ⊛ (raw (fact 𝓤 (IfNone e (Now ws.0))) ⊛ raw (fact 𝓤 (IfNone e (IsSome (last ws.0.items))))
    ⊛ raw (fact 𝓤 (IfNone e (Present → find eqv s.now.items item ≡ last ws.0.items)))
    ⊛ raw (fact 𝓤 (IfNone e (Absent → (made : X.Denot) × Makes made × (last ws.0.items ≡ Some (stored made)))))
    ⊛ raw (fact 𝓤 (Back e s.now ws.0 Hands Absent))))))) (id⊢ 𝓤 _) $
    await ! tt $ pick ! (λ e. split ! $ split ! $ move ! (1 ∷ []) $ peeks ! Handed (Is Handed) (shows 𝓛 Handed) e (v ∷ []) (λ e-is.
    let tv = (((option_laws P (param_laws 0 X LX)).lawful 𝓛).typed e (v ∷ []) e-is).0 in
    lands_as ! refl refl tv $ move ! (2 ∷ []) $ pick ! (λ ws. split ! $ move ! (1 ∷ []) $ split ! $ heard ! _ (λ did. split ! $
    heard ! _ (λ some_last. split ! $ heard ! _ (λ said. split ! $ heard ! _ (λ makes. heard ! _ (λ back.
    fsplit ! $ fsplit ! $ move ! (4 ∷ []) $
    split ! $ move ! (1 ∷ []) $ split ! $ move ! (1 ∷ []) $ split ! $ move ! (1 ∷ []) $ split ! $
    -- [the token of κH; those of κQ and κF; those of κS, of κX and of κ; its final value; the borrow; nothing; the item handed back]
    let n = ws.0 in let at-n : Bor Whole.Denot = record { ref_ptr = (b, o); now = n } in let Shared = ShrRef (named 0) κ Whole in
    let within = meet_⊑_left κ κH in
    move ! (4 ∷ 0 ∷ []) $ join ! $ move ! (4 ∷ 5 ∷ 0 ∷ []) $
    use3 𝓛 (later (‵ (Shared.own_val at-n vs) ⊛ ‵ (fres γ (Whole.coded.code n)) ⊛ ‵ (flft κ q) ⊛ ‵ (flft κH qH)))
    (shared 𝓛 Whole κ b o γ n (named 0) q κH qH (Shares-less 𝓛 Whole Whole.lives (κ ++ κH)
    (set_within P (param 1 S) (param 2 H) b₁ b₂ b₃ b₄ (κ ++ κH) (Incl-trans within (Incl-trans bounds.0 x-within))
    (Incl-trans within (Incl-trans bounds.1.0 s-within)) (Incl-trans (meet_⊑_right κ κH) h-within))
    ((set_laws P (param 1 S) (param 2 H) b₁ b₂ b₃ b₄ (param_laws 0 X LX) (param_laws 1 S LS) (param_laws 2 H LH)).shares 𝓛))) $
    await ! tt $ split ! $ move ! (1 ∷ []) $ split ! $ move ! (1 ∷ []) $ split ! $
    sets ! (addr ! (through ! refl (stop !))) refl (tt, tt) $ sets ! (of_opd ! (get ! refl)) refl tv $
    -- [the tokens of κ and of κH; its final value; the shared reference; the tokens of κQ and κF; those of κS and of κX; ..; the item]
    nothing ! $ move ! (2 ∷ 0 ∷ []) $ join ! $ move ! (5 ∷ 0 ∷ []) $ join ! $ move ! (5 ∷ 0 ∷ []) $ join ! $ move ! (1 ∷ 0 ∷ []) $ join ! $
    nothing ! $ move ! (6 ∷ 0 ∷ []) $ join ! $ move ! (3 ∷ 0 ∷ []) $ join ! $ move ! (1 ∷ 0 ∷ []) $ join ! $
    let BackOr : Ended = h.ended X S H b₀ d₀ b₁ d₁ b₂ d₂ b₃ d₃ b₄ d₄ d₅ in
    let N = triple_of 𝓛 BackOr.signature (h.spec X S H b₀ d₀ b₁ d₁ b₂ d₂ b₃ d₃ b₄ d₄ d₅ 𝓛 𝓜.mem 𝓡.returns) in
    let z₂ : N.Ghost = (
      (
        (κ, (κX, (κS, (κH, tt)))),
        (q, (qX, (qS, (qH, tt)))),
        (bounds.0, (bounds.1.0, tt)),
        (at-n, (e, tt)),
        (vs, (v ∷ [], tt)),
      ),
      tt,
    ) in
    use0 𝓛 (raw (fact 𝓤 (e ≡ None → IsSome (last n.items)))) (fact_i 𝓤 _ (emp 𝓤) (at_none e some_last)) $
    use0 𝓛 (raw (fact 𝓤 h-lives)) (fact_i 𝓤 h-lives (emp 𝓤) h-within) $ join ! $
    use0 𝓛 (raw (fact 𝓤 s-lives)) (fact_i 𝓤 s-lives (emp 𝓤) s-within) $ join ! $
    use0 𝓛 (raw (fact 𝓤 x-lives)) (fact_i 𝓤 x-lives (emp 𝓤) x-within) $ join ! $
    move ! (1 ∷ 0 ∷ []) $ use2 𝓛 (raw (N.pre z₂)) (id⊢ 𝓤 _) $
    calls_at ! (framed 𝓤 𝓛.H 𝓜 𝓣) N (back_or.met 𝓤 𝓛 𝓜 𝓡 (code.calls-linked_hash_set::set::LinkedHashSet::back_or 𝓡.env wired)
    X S H LX LS LH b₀ d₀ b₁ d₁ b₂ d₂ b₃ d₃ b₄ d₄ d₅ m₀ m₁ m₂ m₃ m₄ m₅) z₂
    (and_then ! (get ! refl) (and_then ! (get ! refl) (no_more !))) (λ t.
    let at-κ : NamedLft = record { mir = named 0; lft = κ } in let One : RattleType = ShrRef (named 0) κ P in
    let Out : RattleType = result.the_row One (refused.the_row P) in
    let one-laws = of_field (shr_ref_field at-κ P tt) (shr_ref_laws at-κ P tt) refl (copy_shared (shr_ref_field at-κ P tt)
    (shr_ref_copy at-κ P tt (param_laws 0 X LX).shr_laws)) in
    let Tokens = ‵ (flft κ q) ⊛ ‵ (flft κX qX) ⊛ ‵ (flft κS qS) ⊛ ‵ (flft κH qH) ⊛ ‵ ftrue in
    use1 𝓛 (later (some (λ (x : Out.Denot). (Tokens ⊛ ‵ (Out.own_val x (t ∷ []))) ⊛
    some (λ (ws₂ : Lasts BackOr z₂.0.0 z₂.0.3). ‵ (lasts BackOr z₂.0.0 z₂.0.3 ws₂)
    ⊛ (raw (fact 𝓤 (Found e x n)) ⊛ raw (fact 𝓤 (Kept e x))))))) (id⊢ 𝓤 _) $
    await ! tt $ pick ! (λ x. split ! $ split ! $ move ! (1 ∷ []) $ peeks ! Out (Is Out) (shows 𝓛 Out) x (t ∷ []) (λ x-is.
    lands_as ! refl refl (((result_laws One (refused.the_row P) one-laws (refused_laws P (param_laws 0 X LX))).lawful 𝓛).typed x (t
    ∷ []) x-is).0 $
    move ! (2 ∷ []) $ pick ! (λ ws₂. split ! $ drop ! $ split ! $ heard ! _ (λ ok. heard ! _ (λ err.
    -- [the result; the tokens; its final value; the tokens of κQ and κF; nothing]
    returns ! (look_at ! 0 refl) $ free_all ! refl $
    suffices ! _ (ends_at 𝓛 En hs c (At vs (u ∷ []) (t₀ ∷ [])) t x (tt, (tt, (tt, tt))) (tt, (tt, (tt, tt)))) $
    move ! (1 ∷ []) $ split ! $ move ! (1 ∷ []) $ split ! $ move ! (1 ∷ []) $ split ! $ move ! (1 ∷ []) $ split ! $
    move ! (0 ∷ 7 ∷ []) $ join ! $ move ! (2 ∷ 0 ∷ []) $ join ! $ move ! (2 ∷ 0 ∷ []) $ join ! $ move ! (2 ∷ 0 ∷ []) $ join ! $
    -- [the tokens; nothing; the result; its final value; nothing]
    move ! (3 ∷ []) $ use1 𝓛 (‵ (ends_so P (param 1 S) (param 2 H) members b₃ b₄ s Now x))
    (weaker 𝓛 Whole γ n (λ last. MatchResult x (λ _. Now last) (λ _. last ≡ s.now))
    (ends_as Now e x s.now n did Hands Absent back ok err)) $
    nothing ! $ nothing ! $ fjoin ! $ nothing ! $ fjoin ! $ nothing ! $ fjoin ! $
    keep ! (2 ∷ 0 ∷ 4 ∷ 1 ∷ []) $ group ! 3 $ frame ! $ frame ! $
    let kept = is_refused e x s.now n Hands Absent back err in let handed = both_of x Makes New kept.0 in
    use0 𝓛 (raw (fact 𝓤 (IfOk x (λ r. Present → find eqv s.now.items item ≡ Some r.now)))) (fact_i 𝓤 _ (emp 𝓤)
    (is_stored (λ o. Present → find eqv s.now.items item ≡ o) e x n said ok)) $ frame ! $
    use0 𝓛 (raw (fact 𝓤 (IfOk x (λ r. Absent → (made : X.Denot) × Makes made × (r.now ≡ stored made))))) (fact_i 𝓤 _ (emp 𝓤)
    (is_made e x n Absent Makes stored makes ok)) $ frame ! $
    use0 𝓛 (raw (fact 𝓤 (IfErr x (λ refused. Makes refused.item)))) (fact_i 𝓤 _ (emp 𝓤) handed.0) $ frame ! $
    use0 𝓛 (raw (fact 𝓤 (OnErr x Absent))) (fact_i 𝓤 _ (emp 𝓤) kept.1) $ frame ! $
    use0 𝓛 (raw (fact 𝓤 (IfErr x (λ refused. New refused.item)))) (fact_i 𝓤 _ (emp 𝓤) handed.1) $ frame ! $
    by ! (fact_i 𝓤 _ _ kept.2))))))))))))))))))))))) in
    subst (λ (us : List Val). Goes us vss.1.0 vss.1.1.0) (sym at) (subst (λ (ws : List Val). Goes vs ws vss.1.1.0) (sym is)
    (subst (Goes vs (u ∷ [])) (sym held) walk)))
