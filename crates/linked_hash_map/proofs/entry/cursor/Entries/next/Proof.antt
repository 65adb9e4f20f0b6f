-- `next` lends the map of the cursor, by `as_map`, and hands on what the map's own `next_entry`
-- returns. By hand, since the borrow checker proves no loan from a type that names a lifetime to an
-- entry in an `Option`.
use Rattle.linked_hash_map.proofs.Names.{Bool, IfNone, IfSome, None, Option, Some, [], ap, refl, rules, subst, sym, ◌∷◌, ◌≡◌, Keeps}
use Rattle.linked_hash_map.proofs.Names.{to_visit, occupied_key, occupied_map, occupied_value, LinkedMap, value_at, IsValid, OccupiedEntry}
use Rattle.linked_hash_map.proofs.Names.{proved, name_if_some, GName, flft, ftrue, emp, ent, fst∗, id⊢, sep, ◌⊑◌, fact_i, fact, tables, no}
use Rattle.linked_hash_map.proofs.Names.{followed, follows, follows_by, follows_if, bounded, param, RattleType, MutRef, mut_Tells, mut_vals}
use Rattle.linked_hash_map.proofs.Names.{mut_ref_to, named_lft, plain, heard, nothing, only, peeks, calls_at, Ended, Lasts, lasts, on_entry}
use Rattle.linked_hash_map.proofs.Names.{triple_of, framed, Goes-spent_ref, Stays, ends_at, says, stay_dropped, inst_fn, Args, a_type}
use Rattle.linked_hash_map.proofs.Names.{dcons, dnil, named, alloc_all, free_all, get, lands_as, look_at, pass_all, sets, through, !, await}
use Rattle.linked_hash_map.proofs.Names.{by, frame, group, join, later, move, pick, qed, raw, rewrite, some, split, suffices, use0, use1}
use Rattle.linked_hash_map.proofs.Names.{use2, ‵, ◌$◌, ◌∵◌, ◌⊛◌, addr, and_then, enter, no_more, returns, stop}
use Rattle.linked_hash_map.proofs.entry.cursor.Entries.next.Statement.{statement}
use Rattle.linked_hash_map.specs.CursorLends.{lends_map, lends_next_entry, with_cursor_map}
use Rattle.std.{proofs.option.Option.TheLaws.the_row_laws as option_laws, specs.HashMap.Lent.HashMembers}
use contract.Lifetimes.{Lfts}
use denote.{Laws.Is, Laws.shows, Param.Laws.param_laws}
use mir.Val.{Val}
use seplogic.Ra.Ura.{Ura}
use types.{Kit.drop, Logic.Logic, Logic.sem}
use mathlib.Core.Option as maybe
use Rattle.std.specs.contracts.option.Option as option
use Rattle.std.specs.declared.cmp.PartialEq as eq
use Rattle.std.specs.declared.hash.Hash as hash
use Rattle.std.specs.declared.hash.Hasher as hasher
use Rattle.std.specs.declared.hash.BuildHasher as builder
use Rattle.linked_hash_map.specs.contracts.map.LinkedHashMap as map
use Rattle.linked_hash_map.specs.contracts.entry.OccupiedEntry as entry
use Rattle.linked_hash_map.specs.contracts.entry.cursor.Entries as cursor
use Rattle.linked_hash_map.specs.contracts.entry.cursor.Entries.as_map as g
use Rattle.linked_hash_map.specs.contracts.map.LinkedHashMap.next_entry as h
use Rattle.linked_hash_map.specs.contracts.entry.cursor.Entries.next as f
use Rattle.linked_hash_map.proofs.entry.OccupiedEntry.TheLaws as entry-laws
use Rattle.linked_hash_map.proofs.entry.cursor.Entries.as_map.Met as as_map
use Rattle.linked_hash_map.proofs.map.LinkedHashMap.next_entry.Met as next_entry
use Rattle.linked_hash_map.proofs.entry.cursor.Entries.next.Code as code

-- if a lender follows a part, and the part is handed on whole or rests at v, the lender follows
-- what is handed on, or rests
handed_on : {M : Type 1} {𝓤 : Ura M} (𝓛 : Logic 𝓤) (R U : RattleType) (γ γ' : GName)
    (F : U.Denot → R.Denot) (v : U.Denot) (n : maybe.Option GName)
    → ((δ : GName) → n ≡ maybe.some δ → δ ≡ γ')
    → ent 𝓤 (sep 𝓤 (sem 𝓛 (follows R U γ γ' F)) (sem 𝓛 (follows_if U U γ' n (λ w. w) v))) (sem 𝓛 (follows_if R U γ n F (F v)))
unfolding follows_by
handed_on 𝓛 R U γ γ' F v maybe.none same = followed 𝓛 R U F γ γ' v
handed_on {𝓤 = 𝓤} 𝓛 R U γ γ' F v (maybe.some δ) same = subst
    (λ (ε : GName). ent 𝓤 (sep 𝓤 (sem 𝓛 (follows R U γ γ' F)) (sem 𝓛 (follows U U γ' δ (λ w. w))))
    (sem 𝓛 (follows R U γ ε F))) (sym (same δ refl))
    (fst∗ 𝓤 (sem 𝓛 (follows R U γ γ' F)) (sem 𝓛 (follows U U γ' δ (λ w. w))))

module _ {K V S H : Type 0} {g : eq.Ghosts K} {h : hash.Ghosts K} {b : builder.Ghosts S H}
    {w : hasher.Ghosts H} (e : Option (OccupiedEntry K V S H g h b w)) where
  -- what `next_entry` says of its result: of the name of its reference, and of the map that was
  -- lent
  abbrev Named : GName → Type 0
  Named γ = IfSome e (λ o. o.map.ghost_name ≡ γ)

  module _ (m : LinkedMap K V S) where
    abbrev Visits : Type 0
    Visits = IfSome e (λ o. to_visit m ≡ occupied_key o ∷ to_visit (occupied_map o))

    abbrev Value : (K → K → Bool) → Type 0
    Value eq = IfSome e (λ o. value_at eq m.pairs (occupied_key o) ≡ Some (occupied_value o))

    abbrev SamePairs : Type 0
    SamePairs = IfSome e (λ o. (occupied_map o).pairs ≡ m.pairs)

    abbrev Kept : Type 0
    Kept = IfSome e (λ o. Keeps m (occupied_map o))

    abbrev NoneLeft : Type 0
    NoneLeft = IfNone e (to_visit m ≡ [])

same_name : {K V S H : Type 0} {g : eq.Ghosts K} {h : hash.Ghosts K} {b : builder.Ghosts S H}
    {w : hasher.Ghosts H} (e : Option (OccupiedEntry K V S H g h b w)) (γ : GName)
    → Named e γ → (δ : GName) → name_if_some (λ o. o.map.ghost_name) e ≡ maybe.some δ → δ ≡ γ
same_name None γ said δ is = search rules
same_name (Some o) γ said δ is = search rules

pub next_spec : {M : Type 1} → statement M
next_spec 𝓤 𝓛 𝓜 𝓡 wired K V S H LK LV LS LH b₀ d₀ b₁ d₁ b₂ d₂ b₃ d₃ b₄ d₄ d₅ m₀ m₁ m₂ m₃ m₄ m₅ =
    let X = param 0 K in let Y = param 1 V in let Z = param 2 S in let W = param 3 H in
    let row : Lfts 6 → RattleType = λ κs. cursor.the_row (named_lft 6 1 tt κs) X Y Z W b₁ b₂ b₃ b₄ in
    let Whole = cursor.the_row (record { mir = named 1; lft = [] }) X Y Z W b₁ b₂ b₃ b₄ in
    let Part = map.the_row X Y Z W b₁ b₂ b₃ b₄ in
    let members : HashMembers K.Denot = record { eq = b₁.eq; hash_input = b₂.hash_input } in
    let En : Ended = f.ended K V S H b₀ d₀ b₁ d₁ b₂ d₂ b₃ d₃ b₄ d₄ d₅ in
    let Gn : Ended = g.ended K V S H b₀ d₀ b₁ d₁ b₂ d₂ b₃ d₃ b₄ d₄ d₅ in
    let Hn : Ended = h.ended K V S H b₀ d₀ b₁ d₁ b₂ d₂ b₃ d₃ b₄ d₄ d₅ in
    let c = f.clauses K V S H b₀ d₀ b₁ d₁ b₂ d₂ b₃ d₃ b₄ d₄ d₅ 𝓛 𝓜.mem 𝓡.returns in
    let args : Args = bounded (a_type ∷ a_type ∷ a_type ∷ a_type ∷ []) (K, (V, (S, (H, tt))))
    (dcons d₀ (dcons d₁ (dcons d₂ (dcons d₃ (dcons d₄ (dcons d₅ dnil)))))) in
    let hs : Stays En.signature.params En.kept = (stay_dropped (mut_ref_to (0 ∷ []) tt (plain row)) no, tt) in
    proved 𝓛 En hs c 𝓜 𝓡 (Goes-spent_ref 𝓛 6 (0 ∷ []) tt (plain row), tt)
    (f.Key.name args) (inst_fn args code.function) (code.unfolded 𝓤 𝓛.H 𝓜 𝓡 wired (K, (V, (S, (H, tt)))) d₀ d₁ d₂ d₃ d₄ d₅)
    (λ κs. (mut_vals, tt)) (λ κs. (mut_Tells (named 0) κs.0 (row κs), tt)) (λ κs qs bounds a _ are.
    let G = triple_of 𝓛 Gn.signature (g.spec K V S H b₀ d₀ b₁ d₁ b₂ d₂ b₃ d₃ b₄ d₄ d₅ 𝓛 𝓜.mem 𝓡.returns) in
    let z : G.Ghost = ((κs, qs, bounds, a, (mut_vals a.0, tt)), tt) in
    let Lent = MutRef (named 0) κs.0 Part in
    let k-lives = κs.1.1.0 ⊑ K.lives in let v-lives = κs.1.1.1.0 ⊑ V.lives in
    let s-lives = κs.1.1.1.1.0 ⊑ S.lives in let h-lives = κs.1.1.1.1.1.0 ⊑ H.lives in
    qed 𝓛 (raw (on_entry 𝓛 En.signature κs qs a (mut_vals a.0, tt))
    ∷ (raw (fact 𝓤 k-lives) ⊛ raw (fact 𝓤 v-lives) ⊛ raw (fact 𝓤 s-lives) ⊛ raw (fact 𝓤 h-lives)
    ⊛ ‵ ftrue) ∷ []) ∵
    move ! (1 ∷ []) $ split ! $ heard ! _ (λ k-within. split ! $
    heard ! _ (λ v-within. split ! $ heard ! _ (λ s-within. split ! $ heard ! _ (λ h-within.
    use0 𝓛 (raw (fact 𝓤 h-lives)) (fact_i 𝓤 h-lives (emp 𝓤) h-within) $ join ! $
    use0 𝓛 (raw (fact 𝓤 s-lives)) (fact_i 𝓤 s-lives (emp 𝓤) s-within) $ join ! $
    use0 𝓛 (raw (fact 𝓤 v-lives)) (fact_i 𝓤 v-lives (emp 𝓤) v-within) $ join ! $
    use0 𝓛 (raw (fact 𝓤 k-lives)) (fact_i 𝓤 k-lives (emp 𝓤) k-within) $ join ! $
    move ! (1 ∷ 0 ∷ []) $ use2 𝓛 (raw (G.pre z)) (id⊢ 𝓤 _) $ enter ! _ _ _ _ _ $ alloc_all ! (λ l. pass_all ! refl ((tt, tt), tt) $
    sets ! (addr ! (through ! refl (stop !))) refl (tt, tt) $
    calls_at ! (framed 𝓤 𝓛.H 𝓜 (tables 𝓤 𝓛.H 𝓜 𝓡 𝓡.env)) G
    (as_map.met 𝓤 𝓛 𝓜 𝓡 (code.calls-linked_hash_map::entry::cursor::Entries::as_map 𝓡.env wired) K V
    S H LK LV LS LH b₀ d₀ b₁ d₁ b₂ d₂ b₃ d₃ b₄ d₄ d₅ m₀ m₁ m₂ m₃ m₄ m₅) z
    (and_then ! (get ! refl) (no_more !)) (λ v.
    use1 𝓛 (later (some (λ (r : Lent.Denot).
    ((‵ (flft κs.0 qs.0) ⊛ ‵ (flft κs.1.0 qs.1.0) ⊛ ‵ (flft κs.1.1.0 qs.1.1.0)
    ⊛ ‵ (flft κs.1.1.1.0 qs.1.1.1.0) ⊛ ‵ (flft κs.1.1.1.1.0 qs.1.1.1.1.0)
    ⊛ ‵ (flft κs.1.1.1.1.1.0 qs.1.1.1.1.1.0) ⊛ ‵ ftrue) ⊛ ‵ (Lent.own_val r (v ∷ []))) ⊛
    some (λ (ws : Lasts Gn κs a). ‵ (lasts Gn κs a ws)
    ⊛ (‵ (lends_map X Y Z W members b₃ b₄ a.0 r) ⊛ raw (fact 𝓤 (r.now ≡ a.0.now.map.now))))))) (id⊢ 𝓤 _) $
    await ! tt $ pick ! (λ r. split ! $ split ! $ split ! $ move ! (2 ∷ []) $ peeks ! Lent (Is Lent) (shows 𝓛 Lent) r (v ∷ []) (λ is.
    let at = mut_Tells (named 0) κs.0 Part r (v ∷ []) is in
    lands_as ! (ap only at) refl (tt, tt) $ rewrite ! 0 (λ (w : Val). ‵ (Lent.own_val r (w ∷ []))) (ap only at) refl $
    sets ! (addr ! (through ! refl (stop !))) refl (tt, tt) $
    move ! (3 ∷ []) $ pick ! (λ ws. split ! $ drop ! $ split ! $ move ! (1 ∷ []) $ heard ! _ (λ as_lent_to.
    -- [what follows; what was lent; the token of κs.0; the other tokens]
    let N = triple_of 𝓛 Hn.signature (h.spec K V S H b₀ d₀ b₁ d₁ b₂ d₂ b₃ d₃ b₄ d₄ d₅ 𝓛 𝓜.mem 𝓡.returns) in
    let u : N.Ghost = (
      (
        (κs.0, κs.1.1),
        (qs.0, qs.1.1),
        (bounds.1.0, (bounds.1.1.0, (bounds.1.1.1.0, tt))),
        (r, tt),
        (mut_vals r, tt),
      ),
      tt,
    ) in
    nothing ! $ move ! (2 ∷ 0 ∷ []) $ join ! $ move ! (3 ∷ []) $ split ! $ move ! (4 ∷ 1 ∷ []) $ join ! $ move ! (0 ∷ 2 ∷ []) $ join ! $
    nothing ! $ use0 𝓛 (raw (fact 𝓤 h-lives)) (fact_i 𝓤 h-lives (emp 𝓤) h-within) $ join ! $
    use0 𝓛 (raw (fact 𝓤 s-lives)) (fact_i 𝓤 s-lives (emp 𝓤) s-within) $ join ! $
    use0 𝓛 (raw (fact 𝓤 v-lives)) (fact_i 𝓤 v-lives (emp 𝓤) v-within) $ join ! $
    use0 𝓛 (raw (fact 𝓤 k-lives)) (fact_i 𝓤 k-lives (emp 𝓤) k-within) $ join ! $
    move ! (1 ∷ 0 ∷ []) $ use2 𝓛 (raw (N.pre u)) (id⊢ 𝓤 _) $
    calls_at ! (framed 𝓤 𝓛.H 𝓜 (tables 𝓤 𝓛.H 𝓜 𝓡 𝓡.env)) N
    (next_entry.met 𝓤 𝓛 𝓜 𝓡 (code.calls-linked_hash_map::map::LinkedHashMap::next_entry 𝓡.env wired)
    K V S H LK LV LS LH b₀ d₀ b₁ d₁ b₂ d₂ b₃ d₃ b₄ d₄ d₅ m₀ m₁ m₂ m₃ m₄ m₅) u
    (and_then ! (get ! refl) (no_more !)) (λ w.
    let Entry = entry.the_row (record { mir = named 0; lft = κs.0 }) X Y Z W b₁ b₂ b₃ b₄ in let Given = option.the_row Entry in
    use1 𝓛 (later (some (λ (e : Given.Denot).
    ((‵ (flft κs.0 qs.0) ⊛ ‵ (flft κs.1.1.0 qs.1.1.0) ⊛ ‵ (flft κs.1.1.1.0 qs.1.1.1.0)
    ⊛ ‵ (flft κs.1.1.1.1.0 qs.1.1.1.1.0) ⊛ ‵ (flft κs.1.1.1.1.1.0 qs.1.1.1.1.1.0) ⊛ ‵ ftrue)
    ⊛ ‵ (Given.own_val e (w ∷ []))) ⊛
    some (λ (ws : Lasts Hn u.0.0 u.0.3).
    ‵ (lasts Hn u.0.0 u.0.3 ws)
    ⊛ (‵ (lends_next_entry X Y Z W members b₃ b₄ r e) ⊛ raw (fact 𝓤 (Named e r.ghost_name))
    ⊛ raw (fact 𝓤 (Visits e r.now)) ⊛ raw (fact 𝓤 (Value e r.now b₁.eq))
    ⊛ raw (fact 𝓤 (SamePairs e r.now)) ⊛ raw (fact 𝓤 (Kept e r.now))
    ⊛ raw (fact 𝓤 (IsValid b₁.eq r.now)) ⊛ raw (fact 𝓤 (NoneLeft e r.now))))))) (id⊢ 𝓤 _) $
    await ! tt $ pick ! (λ e. split ! $ split ! $ split ! $ move ! (3 ∷ []) $ pick ! (λ ws'. split ! $ drop ! $ split ! $ move ! (1 ∷ []) $
    split ! $ heard ! _ (λ name. split ! $
    heard ! _ (λ visits. split ! $ heard ! _ (λ value. split ! $ heard ! _
    (λ pairs. split ! $ heard ! _ (λ keeps. split ! $ heard ! _ (λ valid. heard ! _ (λ none.
    -- [where it rests; the token of κs.0; the tokens of the parameters; the result; the token of
    -- κs.1; what follows]
    move ! (3 ∷ []) $ peeks ! Given (Is Given) (shows 𝓛 Given) e (w ∷ []) (λ it.
    let laws = entry-laws.the_row_laws (record { mir = named 0; lft = κs.0 }) X Y Z W b₁ b₂ b₃ b₄
    (param_laws 0 K LK) (param_laws 1 V LV) (param_laws 2 S LS) (param_laws 3 H LH) in
    lands_as ! refl refl (((option_laws Entry laws).lawful 𝓛).typed e (w ∷ []) it).0 $
    returns ! (look_at ! 0 refl) $ free_all ! refl $
    suffices ! _ (ends_at 𝓛 En hs c z w e (tt, tt) (tt, tt)) $
    let lent_to = a.0.now in
    move ! (5 ∷ 1 ∷ []) $
    use2 𝓛 (‵ (follows_if Whole Part a.0.ghost_name (name_if_some (λ o. o.map.ghost_name) e)
    (with_cursor_map lent_to) (with_cursor_map lent_to r.now)))
    (handed_on 𝓛 Whole Part a.0.ghost_name r.ghost_name (with_cursor_map lent_to) r.now
    (name_if_some (λ o. o.map.ghost_name) e) (same_name e r.ghost_name name)) $
    rewrite ! 0 (λ (m : Part.Denot). ‵ (follows_if Whole Part a.0.ghost_name
    (name_if_some (λ o. o.map.ghost_name) e) (with_cursor_map lent_to) (with_cursor_map lent_to m)))
    as_lent_to refl $
    -- [what follows; the result; the token of κs.0; the tokens of the parameters; the token of
    -- κs.1]
    nothing ! $ nothing ! $ join ! $ move ! (5 ∷ 4 ∷ []) $ join ! $ move ! (4 ∷ 0 ∷ []) $ join ! $
    move ! (0 ∷ 1 ∷ 3 ∷ []) $ group ! 3 $ frame ! $ frame ! $
    use0 𝓛 (raw (fact 𝓤 (Visits e lent_to.map.now))) (fact_i 𝓤 _ (emp 𝓤) (subst (Visits e) as_lent_to visits)) $ frame ! $
    use0 𝓛 (raw (fact 𝓤 (Value e lent_to.map.now b₁.eq))) (fact_i 𝓤 _ (emp 𝓤) (subst (λ m. Value e m b₁.eq) as_lent_to value)) $ frame ! $
    use0 𝓛 (raw (fact 𝓤 (SamePairs e lent_to.map.now))) (fact_i 𝓤 _ (emp 𝓤) (subst (SamePairs e) as_lent_to pairs)) $ frame ! $
    use0 𝓛 (raw (fact 𝓤 (Kept e lent_to.map.now))) (fact_i 𝓤 _ (emp 𝓤) (subst (Kept e) as_lent_to keeps)) $ frame ! $
    says ! (subst (NoneLeft e) as_lent_to none) $ by ! (fact_i 𝓤 _ _ (subst (IsValid b₁.eq) as_lent_to valid))))))))))))))))))))))))
