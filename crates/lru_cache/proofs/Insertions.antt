-- What a cache has at a key after a call that may take pairs away.
use Rattle.std.proofs.Common.{◌≡◌, ◌⊎◌, inl, inr, ℕ, zero, suc, ◌+◌, ◌-◌, ◌<◌, ◌≤◌, Bool, true, false, cond, List, [], ◌∷◌, ◌++◌, length}
use Rattle.std.proofs.Common.{drop, option_map, Some, None, refl, sym, ap, ◌∙◌, subst, arith, length-append, drop_of_length-le}
use Rattle.std.proofs.lemmas.Map.Keys.{IsDistinct-tail}
use Rattle.std.specs.{Cmp.IsEquivalence, List.IsDistinct, Map.keys_of, Option.IsSome, Option.option_or}
use Rattle.linked_hash_map.specs.Pairs.{last, without_first, key_or, find, value_at, without, to_back}
use Rattle.linked_hash_map.specs.{declared.map.Mode.TheVariants.Touch, Updates.Updates}
use Rattle.linked_hash_map.proofs.Callers.Keys.{find-drop, distinct-to_back, length-put_most, length-to_back_present}
use Rattle.linked_hash_map.proofs.Callers.Lookups.{last-append, lookup_entry-append, eq-stored, find-without_here, value_at-put_apart}
use Rattle.linked_hash_map.proofs.Callers.{Turns.find-others, Updates.Updates-put}
use Rattle.lru_cache.specs.Cache.{newest, inserted, SameOrNone}

-- the last n of a list that ends in x
module _ {X : Type 0} (x : X) where
  drop-snoc : (m : ℕ) (xs : List X) → m ≤ length xs → drop m (xs ++ x ∷ []) ≡ drop m xs ++ x ∷ []
  drop-snoc zero xs few = refl
  drop-snoc (suc m) [] few = absurd (omega arith)
  drop-snoc (suc m) (y ∷ ys) few = drop-snoc m ys (omega arith)

  newest-snoc : (n : ℕ) (xs : List X) → 0 < n → newest n (xs ++ x ∷ []) ≡ drop (length xs + 1 - n) xs ++ x ∷ []
  newest-snoc n xs some =
      ap (λ m. drop (m - n) (xs ++ x ∷ [])) (length-append xs (x ∷ [])) ∙ drop-snoc (length xs + 1 - n) xs (omega arith)

module _ {K V : Type 0} {eq : K → K → Bool} (laws : IsEquivalence eq) where
  SameOrNone-drop : (n : ℕ) (pairs : List (K × V)) → IsDistinct eq (keys_of pairs) → (q : K) → SameOrNone eq pairs (drop n pairs) q
  SameOrNone-drop zero pairs distinct q = inr refl
  SameOrNone-drop (suc n) [] distinct q = inr refl
  SameOrNone-drop (suc n) (pair ∷ pairs) distinct q =
      by_test (eq q pair.0) refl (SameOrNone-drop n pairs (IsDistinct-tail eq pair.0 (keys_of pairs) distinct) q)
    where
      by_test : (b : Bool) → eq q pair.0 ≡ b → SameOrNone eq pairs (drop n pairs) q
          → (value_at eq (drop n pairs) q ≡ None)
          ⊎ (value_at eq (drop n pairs) q ≡ option_map (λ p. p.1) (cond b (Some pair) (find eq pairs q)))
      by_test true same rest =
          inl (ap (option_map (λ p. p.1)) (find-drop eq pairs q n (find-others laws pairs q pair distinct same)))
      by_test false apart rest = rest

  -- with the first gone
  pub SameOrNone-without_first : (pairs after : List (K × V)) → after ≡ without_first pairs → IsDistinct eq (keys_of pairs) → (q : K)
      → SameOrNone eq pairs after q
  SameOrNone-without_first pairs after is distinct q =
      subst (λ ps. SameOrNone eq pairs ps q) (sym is) (SameOrNone-drop 1 pairs distinct q)

  module _ (n : ℕ) (pairs after : List (K × V)) where
    -- with the last n left
    pub SameOrNone-newest : after ≡ newest n pairs → IsDistinct eq (keys_of pairs) → (q : K) → SameOrNone eq pairs after q
    SameOrNone-newest is distinct q =
        subst (λ ps. SameOrNone eq pairs ps q) (sym is) (SameOrNone-drop (length pairs - n) pairs distinct q)

    -- after an insertion, with at most n
    module _ (k : K) (v : V) (is : after ≡ inserted eq n pairs k v) where
      pub value_at-inserted : 0 < n → value_at eq after k ≡ Some v
      value_at-inserted some =
          let key = key_or k (find eq pairs k) in let count = length (without eq pairs k) + 1 - n in
          ap (λ ps. value_at eq ps k) (is ∙ newest-snoc (key, v) n (without eq pairs k) some)
          ∙ ap (option_map (λ p. p.1)) (lookup_entry-append (eq k) (drop count (without eq pairs k)) ((key, v) ∷ [])
          ∙ ap (λ o. option_or o (cond (eq k key) (Some (key, v)) None))
          (find-drop eq (without eq pairs k) k count (find-without_here laws pairs k))
          ∙ ap (λ b. cond b (Some (key, v)) None) (eq-stored laws pairs k))

      pub value_at-inserted_none : n ≡ 0 → value_at eq after k ≡ None
      value_at-inserted_none none =
          ap (λ ps. value_at eq ps k) (is ∙ drop_of_length-le (to_back eq pairs k v) (omega (arith, none)))

      pub last-inserted : 0 < n → last after ≡ Some (key_or k (find eq pairs k), v)
      last-inserted some =
          let key = key_or k (find eq pairs k) in
          ap last (is ∙ newest-snoc (key, v) n (without eq pairs k) some)
          ∙ last-append (drop (length (without eq pairs k) + 1 - n) (without eq pairs k)) (key, v)

      module _ (distinct : IsDistinct eq (keys_of pairs)) where
        pub SameOrNone-inserted : (q : K) → eq k q ≡ false → SameOrNone eq pairs after q
        SameOrNone-inserted q apart =
            subst (λ o. (value_at eq after q ≡ None) ⊎ (value_at eq after q ≡ o)) (value_at-put_apart laws Touch pairs k q v apart)
            (subst (λ ps. SameOrNone eq (to_back eq pairs k v) ps q) (sym is)
            (SameOrNone-drop (length (to_back eq pairs k v) - n) (to_back eq pairs k v) (distinct-to_back laws pairs k v distinct) q))

        -- if no pair goes
        all_kept : length (to_back eq pairs k v) ≤ n → Updates eq pairs after k (Some v)
        all_kept few =
            let none : length (to_back eq pairs k v) - n ≡ 0 = omega arith in
            Updates-put laws Touch pairs after k v (is ∙ ap (λ m. drop m (to_back eq pairs k v)) none)

        pub Updates-inserted : length pairs ≤ n → IsSome (find eq pairs k) ⊎ (length pairs < n) → Updates eq pairs after k (Some v)
        Updates-inserted within (inl there) =
            let same = length-to_back_present laws pairs k v distinct there in all_kept (omega arith)
        Updates-inserted within (inr below) =
            let most = length-put_most eq Touch pairs k v in all_kept (omega arith)

-- what each key has after an insertion, and after a removal of those used least recently
pub ruleset insertions = (value_at-inserted, value_at-inserted_none, last-inserted, SameOrNone-inserted)

pub ruleset removals = (SameOrNone-newest)
