-- For callers: which pair and which keys stand at the ends, after one was moved there.
use Rattle.std.proofs.Common.{◌≡◌, ℕ, ◌<◌, ◌≤◌, length, Bool, true, not, List, [], ◌∷◌, ◌++◌, take, filter, append-nil, Some}
use Rattle.std.{proofs.Common.option_to_list, proofs.Common.refl, proofs.Common.sym, proofs.Common.arith, specs.Cmp.IsEquivalence}
use Rattle.std.specs.List as lists
use Rattle.std.specs.{Option.IsSome, Map.keys_of}
use Rattle.std.proofs.lemmas.{List.map-append, List.take-map, List.take_all, List.length-map, List.Elements.filter-append}
use Rattle.linked_hash_map.specs.declared.map.Mode.{Mode}
use Rattle.linked_hash_map.specs.Pairs.{first, last, key_or, find, value_at, without, to_back_as_is, to_front, set_value, put}
use Rattle.linked_hash_map.proofs.Callers.{Keys.keys_of-without, Lookups.eq-stored, Lookups.find-put, Lookups.last-append}

module _ {A K V : Type 0} (eq : A → K → Bool) where
  keys_of-found : (pairs : List (K × V)) (k : A)
      → keys_of (option_to_list (find eq pairs k)) ≡ option_to_list (lists.find (eq k) (keys_of pairs))
  keys_of-found [] k = refl
  keys_of-found (pair ∷ pairs) k = grind (arith, keys_of-found pairs k)

  -- the keys, with that of k at the front, or at the back, if there is one
  pub keys_of-to_front : (pairs : List (K × V)) (k : A)
      → keys_of (to_front eq pairs k) ≡ option_to_list (lists.find (eq k) (keys_of pairs)) ++ filter (λ j. not (eq k j)) (keys_of pairs)
  keys_of-to_front pairs k = grind (arith, map-append, keys_of-found, keys_of-without)

  pub keys_of-to_back_as_is : (pairs : List (K × V)) (k : A)
      → keys_of (to_back_as_is eq pairs k)
      ≡ filter (λ j. not (eq k j)) (keys_of pairs) ++ option_to_list (lists.find (eq k) (keys_of pairs))
  keys_of-to_back_as_is pairs k = grind (arith, map-append, keys_of-without, keys_of-found)

  without-without : (pairs : List (K × V)) (k : A) → without eq (without eq pairs k) k ≡ without eq pairs k
  without-without [] k = refl
  without-without (pair ∷ pairs) k = grind (arith, without-without pairs k)

  without-set_value : (pairs : List (K × V)) (k : A) (v : V) → without eq (set_value eq pairs k v) k ≡ without eq pairs k
  without-set_value [] k v = refl
  without-set_value (pair ∷ pairs) k v = grind (arith, without-set_value pairs k v)

-- the keys of the first pairs are the first keys
pub keys_of-take : {K V : Type 0} (n : ℕ) (pairs : List (K × V)) → keys_of (take n pairs) ≡ take n (keys_of pairs)
keys_of-take {K} {V} n pairs = sym (take-map (λ (pair : K × V). pair.0) n pairs)

-- and all of them if there are no more
pub take-keys_of : {K V : Type 0} (n : ℕ) (pairs : List (K × V)) → length pairs ≤ n → take n (keys_of pairs) ≡ keys_of pairs
take-keys_of {K} {V} n pairs few = let same = length-map pairs (λ (pair : K × V). pair.0) in take_all n (keys_of pairs) (omega arith)

module _ {K V : Type 0} {eq : K → K → Bool} (laws : IsEquivalence eq) where
  without-append : (pairs : List (K × V)) (k key : K) (v : V) → eq k key ≡ true → without eq (pairs ++ (key, v) ∷ []) k ≡ without eq pairs k
  without-append pairs k key v same = grind (arith, filter-append, append-nil)

  -- without the key that was put in there are the others
  pub without-put_here : (mode : Mode) (pairs : List (K × V)) (k : K) (v : V) → without eq (put eq mode pairs k v) k ≡ without eq pairs k
  without-put_here mode pairs k v = grind (arith, without-append, eq-stored, without-without, without-set_value)

  -- the pair that was put in, moved to the front
  pub to_front-put : (mode : Mode) (pairs : List (K × V)) (k : K) (v : V)
      → to_front eq (put eq mode pairs k v) k ≡ (key_or k (find eq pairs k), v) ∷ without eq pairs k
  to_front-put mode pairs k v = grind (arith, find-put, without-put_here)

  -- the first of pairs, if some are kept
  pub value_at-take : (n : ℕ) (pairs : List (K × V)) (k : K) (v : V) → 0 < n → value_at eq (take n ((k, v) ∷ pairs)) k ≡ Some v
  value_at-take n pairs k v some = grind arith

-- the first pair is the one that was moved there
pub first-to_front : {A K V : Type 0} (eq : A → K → Bool) (pairs : List (K × V)) (k : A) → IsSome (find eq pairs k)
    → first (to_front eq pairs k) ≡ find eq pairs k
first-to_front eq pairs k there = grind arith

-- and so is the last one
pub last-to_back_as_is : {A K V : Type 0} (eq : A → K → Bool) (pairs : List (K × V)) (k : A) → IsSome (find eq pairs k)
    → last (to_back_as_is eq pairs k) ≡ find eq pairs k
last-to_back_as_is eq pairs k there = grind (arith, last-append)
