-- For callers: the keys of a cache after each call, the one used least recently first.
use Rattle.std.proofs.Common.{◌≡◌, ℕ, ◌-◌, ◌<◌, ◌≤◌, Bool, true, not, IsTrue, List, [], ◌∷◌, ◌++◌, filter, length, drop, Option, Some}
use Rattle.std.proofs.Common.{None, is_some, option_to_list, refl, sym, ap, ap₂, ◌∙◌, true≢false, arith, length-append}
use Rattle.std.proofs.lemmas.List.{drop-map, length-map, map-append}
use Rattle.std.specs.{Cmp.IsEquivalence, List.IsDistinct, Map.keys_of, Option.IsSome}
use Rattle.linked_hash_map.specs.Pairs.{without_first, key_or, find, without, to_back, to_back_as_is, to_back_by, with_value}
use Rattle.linked_hash_map.proofs.Callers.Keys.{keys_of-to_back, keys_of-to_back_own, keys_of-without, length-to_back_present}
use Rattle.linked_hash_map.proofs.Callers.{Keys.to_back-absent, Lookups.eq-find}
use Rattle.lru_cache.{specs.Cache.newest, specs.Cache.inserted, proofs.Callers.Newest.newest-all}

-- the keys of the last n pairs are the last n keys, as after a lower limit
pub keys_of-newest : {K V : Type 0} (n : ℕ) (pairs : List (K × V)) → keys_of (newest n pairs) ≡ newest n (keys_of pairs)
keys_of-newest {K} {V} n pairs = sym (drop-map (λ (pair : K × V). pair.0) (length pairs - n) pairs)
    ∙ ap (λ m. drop (m - n) (keys_of pairs)) (sym (length-map pairs (λ (pair : K × V). pair.0)))

module _ {K V : Type 0} (eq : K → K → Bool) (n : ℕ) (pairs : List (K × V)) (k : K) (v : V) where
  -- after an insertion: the last n of the others, and then the stored key
  pub keys_of-inserted : keys_of (inserted eq n pairs k v)
      ≡ newest n (filter (λ j. not (eq k j)) (keys_of pairs) ++ key_or k (find eq pairs k) ∷ [])
  keys_of-inserted = keys_of-newest n (to_back eq pairs k v) ∙ ap (newest n) (keys_of-to_back eq pairs k v)

  -- of an absent key
  module _ (absent : find eq pairs k ≡ None) where
    -- if there is room below the limit, the key stands behind the others
    pub keys_of-inserted_below : length pairs < n → keys_of (inserted eq n pairs k v) ≡ keys_of pairs ++ k ∷ []
    keys_of-inserted_below below = let pushed = to_back-absent eq pairs k v absent in
        let longer = length-append pairs ((k, v) ∷ []) in let same = ap length pushed in
        ap keys_of (newest-all n (to_back eq pairs k v) (omega arith) ∙ pushed) ∙ map-append (λ (pair : K × V). pair.0) pairs ((k, v) ∷ [])

    -- at the limit the key used least recently goes
    pub keys_of-inserted_full : length pairs ≡ n → keys_of (inserted eq n pairs k v) ≡ without_first (keys_of pairs ++ k ∷ [])
    keys_of-inserted_full full = let pushed = to_back-absent eq pairs k v absent in
        let longer = length-append pairs ((k, v) ∷ []) in
        let one : length (pairs ++ (k, v) ∷ []) - n ≡ 1 = omega arith in
        ap keys_of (ap (newest n) pushed ∙ ap (λ m. drop m (pairs ++ (k, v) ∷ [])) one)
        ∙ sym (drop-map (λ (pair : K × V). pair.0) 1 (pairs ++ (k, v) ∷ []))
        ∙ ap (λ ks. drop 1 ks) (map-append (λ (pair : K × V). pair.0) pairs ((k, v) ∷ []))

module _ {K V : Type 0} {eq : K → K → Bool} (laws : IsEquivalence eq) where
  -- of a present key, within the limit: it goes behind the others
  pub keys_of-inserted_present : (n : ℕ) (pairs : List (K × V)) (k : K) (v : V) → IsDistinct eq (keys_of pairs)
      → IsSome (find eq pairs k) → length pairs ≤ n
      → keys_of (inserted eq n pairs k v) ≡ filter (λ j. not (eq k j)) (keys_of pairs) ++ key_or k (find eq pairs k) ∷ []
  keys_of-inserted_present n pairs k v distinct there within =
      let same = length-to_back_present laws pairs k v distinct there in
      ap keys_of (newest-all n (to_back eq pairs k v) (omega arith)) ∙ keys_of-to_back eq pairs k v

  -- if equality decides `≡`, the key that goes to the back is that of the call
  module _ (pairs : List (K × V)) (k : K) (decides : (a b : K) → IsTrue (eq a b) → a ≡ b) where
    pub keys_of-inserted_own : (n : ℕ) (v : V) → keys_of (inserted eq n pairs k v)
        ≡ newest n (filter (λ j. not (eq k j)) (keys_of pairs) ++ k ∷ [])
    keys_of-inserted_own n v = keys_of-newest n (to_back eq pairs k v) ∙ ap (newest n) (keys_of-to_back_own laws pairs k v decides)

    -- after a lookup that found the key
    pub keys_of-used : is_some (find eq pairs k) ≡ true
        → keys_of (to_back_as_is eq pairs k) ≡ filter (λ j. not (eq k j)) (keys_of pairs) ++ k ∷ []
    keys_of-used there = map-append (λ (pair : K × V). pair.0) (without eq pairs k) (option_to_list (find eq pairs k))
        ∙ ap₂ (λ js ks. js ++ ks) (keys_of-without eq pairs k) (by_pair (find eq pairs k) refl there)
      where
        by_pair : (o : Option (K × V)) → find eq pairs k ≡ o → is_some o ≡ true → keys_of (option_to_list o) ≡ k ∷ []
        by_pair None is there = absurd (true≢false (sym there))
        by_pair (Some pair) is there = ap (λ j. j ∷ []) (sym (decides k pair.0 (eq-find laws pairs k pair is)))

-- after a lookup that writes a value: as after one that writes none, if the key is there
pub keys_of-to_back_by : {A K V : Type 0} (eq : A → K → Bool) (as_key : A → Option K) (pairs : List (K × V)) (k : A) (v : V)
    → is_some (find eq pairs k) ≡ true → keys_of (to_back_by eq as_key pairs k v) ≡ keys_of (to_back_as_is eq pairs k)
keys_of-to_back_by {A} {K} {V} eq as_key pairs k v there =
    map-append (λ (pair : K × V). pair.0) (without eq pairs k) (with_value (as_key k) (find eq pairs k) v)
    ∙ ap (λ ks. keys_of (without eq pairs k) ++ ks) (by_pair (find eq pairs k) (as_key k) there)
    ∙ sym (map-append (λ (pair : K × V). pair.0) (without eq pairs k) (option_to_list (find eq pairs k)))
  where
    by_pair : (o : Option (K × V)) (p : Option K) → is_some o ≡ true → keys_of (with_value p o v) ≡ keys_of (option_to_list o)
    by_pair None p there = absurd (true≢false (sym there))
    by_pair (Some pair) None there = refl
    by_pair (Some pair) (Some key) there = refl
