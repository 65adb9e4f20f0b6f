-- Counts by the keys of items, once the next item is counted.
use Rattle.std.proofs.Common.{◌≡◌, ℕ, ◌+◌, ◌<◌, Bool, true, false, cond, List, [], ◌∷◌, ◌++◌, length, take, get_or, fold, Some, unwrap_or}
use Rattle.std.proofs.Common.{refl, sym, ap, ◌∙◌, arith, length-take}
use Rattle.std.proofs.lemmas.List.Sums.{count_by_more_yes, count_by_more_no, count_by-le-length, fold_more}
use Rattle.std.specs.{Prelude.if◌then◌else◌, List.count_by, List.list_any, Map.keys_of, Cmp.IsEquivalence}
use Rattle.linked_hash_map.specs.Pairs.{value_at, set_or_push}
use Rattle.linked_hash_map.proofs.Callers.{Lookups.value_at-same, Lookups.value_at-set_or_push, Keys.keys_of-set_or_push, Keys.is_some-find}

module _ {A K : Type 0} {eq : K → K → Bool} (laws : IsEquivalence eq) (key_of : A → K) (pairs : List (K × ℕ)) (items : List A) where
  -- the next item is counted
  pub count_by-set_or_push : (d : A) (q : K) {n : ℕ} (i : ℕ) → i < length items
      → ((q : K) → unwrap_or (value_at eq pairs q) 0 ≡ count_by (λ item. eq q (key_of item)) (take i items))
      → n ≡ unwrap_or (value_at eq pairs (key_of (get_or items i d))) 0 + 1
      → unwrap_or (value_at eq (set_or_push eq pairs (key_of (get_or items i d)) n) q) 0
      ≡ count_by (λ item. eq q (key_of item)) (take (i + 1) items)
  count_by-set_or_push d q {n} i within before more = by_test (eq key q) refl
    where
      key : K
      key = key_of (get_or items i d)

      by_test : (b : Bool) → eq key q ≡ b
          → unwrap_or (value_at eq (set_or_push eq pairs key n) q) 0
          ≡ count_by (λ item. eq q (key_of item)) (take (i + 1) items)
      by_test true same =
          ap (λ o. unwrap_or o 0) (value_at-set_or_push laws pairs key q n)
          ∙ ap (λ b. unwrap_or (cond b (Some n) (value_at eq pairs q)) 0) same
          ∙ more
          ∙ ap (λ o. unwrap_or o 0 + 1) (value_at-same laws pairs key q same)
          ∙ ap (λ m. m + 1) (before q)
          ∙ sym (count_by_more_yes (λ item. eq q (key_of item)) items i d within (laws.symm q key ∙ same))
      by_test false apart =
          ap (λ o. unwrap_or o 0) (value_at-set_or_push laws pairs key q n)
          ∙ ap (λ b. unwrap_or (cond b (Some n) (value_at eq pairs q)) 0) apart
          ∙ before q
          ∙ sym (count_by_more_no (λ item. eq q (key_of item)) items i d within (laws.symm q key ∙ apart))

  -- a count is at most the number of items so far
  pub count-lt-length : (d : A) (i : ℕ) → i < length items
      → ((q : K) → unwrap_or (value_at eq pairs q) 0 ≡ count_by (λ item. eq q (key_of item)) (take i items))
      → unwrap_or (value_at eq pairs (key_of (get_or items i d))) 0 < length items
  count-lt-length d i within before = let few = count_by-le-length (λ item. eq (key_of (get_or items i d)) (key_of item)) (take i items) in
      omega (arith, few, before (key_of (get_or items i d)), length-take i items)

  -- and its key stands behind the others, if it is new
  pub keys_of-set_or_push_first_seen : (d : A) (n i : ℕ) → i < length items
      → keys_of pairs ≡ fold (λ seen item.
      if list_any (eq (key_of item)) seen then seen else seen ++ key_of item ∷ []) [] (take i items)
      → keys_of (set_or_push eq pairs (key_of (get_or items i d)) n)
      ≡ fold (λ seen item. if list_any (eq (key_of item)) seen then seen else seen ++ key_of item ∷ []) []
      (take (i + 1) items)
  keys_of-set_or_push_first_seen d n i within before =
      let seen_with = λ (seen : List K) (item : A). if list_any (eq (key_of item)) seen then seen else seen ++ key_of item ∷ [] in
      let key = key_of (get_or items i d) in
      keys_of-set_or_push eq pairs key n
      ∙ ap (λ b. cond b (keys_of pairs) (keys_of pairs ++ key ∷ [])) (is_some-find eq pairs key)
      ∙ ap (λ seen. seen_with seen (get_or items i d)) before
      ∙ sym (fold_more seen_with [] items i d within)
