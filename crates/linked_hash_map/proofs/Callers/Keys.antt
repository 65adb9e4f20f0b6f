-- For callers: which pairs and keys there are after each call, and how many.
use Rattle.std.proofs.Common.{◌≡◌, ℕ, zero, suc, ◌+◌, ◌≤◌, Bool, true, false, cond, not, ◌||◌, IsTrue, List, [], ◌∷◌, ◌++◌, length, drop}
use Rattle.std.proofs.Common.{option_map, unwrap_or, filter, Some, None, is_some, refl, sym, ap, ◌∙◌, subst, true≢false, arith}
use Rattle.std.{proofs.Common.length-append, specs.Option.IsSome, specs.List.IsDistinct, specs.List.list_any}
use Rattle.std.specs.List as lists
use Rattle.std.specs.{Map.lookup_entry, Map.keys_of, Cmp.IsEquivalence}
use Rattle.std.proofs.lemmas.List.{map-append, drop-map, take-map, length-map}
use Rattle.linked_hash_map.specs.Pairs.{first, without_first, without_last, key_or, find, value_at, without, to_back, set_value}
use Rattle.linked_hash_map.specs.{declared.map.Mode.Mode, declared.map.Mode.TheVariants.Touch, Pairs.set_or_push, Pairs.put}
use Rattle.linked_hash_map.proofs.{log.LiveKeys.none_is, Callers.Lookups.eq-stored}
-- calls with a key that is absent, and one with a key that is present
pub use Rattle.linked_hash_map.proofs.pairs.Calls.{find-none, set_value-none, without-absent, to_back-absent}
pub use Rattle.linked_hash_map.proofs.pairs.Calls.{set_or_push-absent, put-absent, set_or_push-present}
-- how many pairs there are: one fewer exactly if the key has one; one more exactly if it has none
pub use Rattle.linked_hash_map.proofs.pairs.Calls.{length-without, length-set_value, length-set_or_push, length-put}
-- keys that differ still do after an insertion
pub use Rattle.linked_hash_map.proofs.pairs.Inserts.{distinct-to_back, distinct-put, length-put_most}

pub is_some-lookup_entry : {K V : Type 0} (test : K → Bool) (pairs : List (K × V))
    → is_some (lookup_entry test pairs) ≡ list_any test (keys_of pairs)
is_some-lookup_entry test [] = refl
is_some-lookup_entry test (pair ∷ pairs) = by_test (test pair.0) (is_some-lookup_entry test pairs)
  where
    by_test : (b : Bool) → is_some (lookup_entry test pairs) ≡ list_any test (keys_of pairs)
        → is_some (cond b (Some pair) (lookup_entry test pairs))
        ≡ (b || list_any test (keys_of pairs))
    by_test true rest = refl
    by_test false rest = rest

key_or-lookup_entry : {K V : Type 0} (test : K → Bool) (k : K) (pairs : List (K × V))
    → key_or k (lookup_entry test pairs) ≡ unwrap_or (lists.find test (keys_of pairs)) k
key_or-lookup_entry test k [] = refl
key_or-lookup_entry test k (pair ∷ pairs) = by_test (test pair.0) (key_or-lookup_entry test k pairs)
  where
    by_test : (b : Bool)
        → key_or k (lookup_entry test pairs) ≡ unwrap_or (lists.find test (keys_of pairs)) k
        → key_or k (cond b (Some pair) (lookup_entry test pairs))
        ≡ unwrap_or (cond b (Some pair.0) (lists.find test (keys_of pairs))) k
    by_test true rest = refl
    by_test false rest = rest

-- by k, which is a key or looks one up
module _ {A K V : Type 0} (eq : A → K → Bool) (pairs : List (K × V)) (k : A) where
  -- as after a `contains_key` that returned false
  pub find-absent : is_some (find eq pairs k) ≡ false → find eq pairs k ≡ None
  find-absent absent = none_is (find eq pairs k) absent

  -- a key is found exactly if it is the same as one of the keys
  pub is_some-find : is_some (find eq pairs k) ≡ list_any (eq k) (keys_of pairs)
  is_some-find = is_some-lookup_entry (eq k) pairs

  pub IsSome-find : (v : V) → value_at eq pairs k ≡ Some v → IsSome (find eq pairs k)
  IsSome-find v found = grind arith

-- the stored key of a key, or the key itself if it has none, in words of the keys alone
pub key_or-find : {K V : Type 0} (eq : K → K → Bool) (pairs : List (K × V)) (k : K)
    → key_or k (find eq pairs k) ≡ unwrap_or (lists.find (eq k) (keys_of pairs)) k
key_or-find eq pairs k = key_or-lookup_entry (eq k) k pairs

-- the keys
keys_of-filter : {K V : Type 0} (kept : K → Bool) (pairs : List (K × V))
    → keys_of (filter (λ pair. kept pair.0) pairs) ≡ filter kept (keys_of pairs)
keys_of-filter kept [] = refl
keys_of-filter kept (pair ∷ pairs) = by_test (kept pair.0) (keys_of-filter kept pairs)
  where
    by_test : (b : Bool) → keys_of (filter (λ p. kept p.0) pairs) ≡ filter kept (keys_of pairs)
        → keys_of (cond b (pair ∷ filter (λ p. kept p.0) pairs) (filter (λ p. kept p.0) pairs))
        ≡ cond b (pair.0 ∷ filter kept (keys_of pairs)) (filter kept (keys_of pairs))
    by_test true rest = ap (λ ks. pair.0 ∷ ks) rest
    by_test false rest = rest

module _ {A K V : Type 0} (eq : A → K → Bool) where
  pub keys_of-without : (pairs : List (K × V)) (k : A) → keys_of (without eq pairs k) ≡ filter (λ j. not (eq k j)) (keys_of pairs)
  keys_of-without pairs k = keys_of-filter (λ j. not (eq k j)) pairs

  pub keys_of-set_value : (pairs : List (K × V)) (k : A) (v : V) → keys_of (set_value eq pairs k v) ≡ keys_of pairs
  keys_of-set_value [] k v = refl
  keys_of-set_value (pair ∷ pairs) k v = grind (arith, keys_of-set_value pairs k v)

module _ {K V : Type 0} (eq : K → K → Bool) where
  pub keys_of-to_back : (pairs : List (K × V)) (k : K) (v : V)
      → keys_of (to_back eq pairs k v) ≡ filter (λ j. not (eq k j)) (keys_of pairs) ++ key_or k (find eq pairs k) ∷ []
  keys_of-to_back pairs k v = grind (arith, map-append, keys_of-without)

  pub keys_of-set_or_push : (pairs : List (K × V)) (k : K) (v : V)
      → keys_of (set_or_push eq pairs k v) ≡ cond (is_some (find eq pairs k)) (keys_of pairs) (keys_of pairs ++ k ∷ [])
  keys_of-set_or_push pairs k v = grind (arith, keys_of-set_value, map-append)

-- if equality decides `≡`, the key that goes to the back is the key of the call
pub keys_of-to_back_own : {K V : Type 0} {eq : K → K → Bool} → IsEquivalence eq → (pairs : List (K × V)) (k : K) (v : V)
    → ((a b : K) → IsTrue (eq a b) → a ≡ b) → keys_of (to_back eq pairs k v) ≡ filter (λ j. not (eq k j)) (keys_of pairs) ++ k ∷ []
keys_of-to_back_own laws pairs k v decides = grind (arith, keys_of-to_back, eq-stored)

-- how many there are
module _ {K V : Type 0} (eq : K → K → Bool) where
  -- in either mode
  pub length-put_absent : (mode : Mode) (pairs : List (K × V)) (k : K) (v : V)
      → find eq pairs k ≡ None → length (put eq mode pairs k v) ≡ length pairs + 1
  length-put_absent mode pairs k v none =
      let pushed = ap length (put-absent eq mode pairs k v none) in
      grind (arith, length-append)

module _ {K V : Type 0} {eq : K → K → Bool} (laws : IsEquivalence eq) where
  pub length-without_present : (pairs : List (K × V)) (k : K) → IsDistinct eq (keys_of pairs)
      → IsSome (find eq pairs k) → length (without eq pairs k) + 1 ≡ length pairs
  length-without_present pairs k distinct found =
      subst (λ (b : Bool). length (without eq pairs k) + cond b 1 0 ≡ length pairs) found
      (length-without laws pairs k distinct)

  pub length-put_present : (mode : Mode) (pairs : List (K × V)) (k : K) (v : V) → IsDistinct eq (keys_of pairs) → IsSome (find eq pairs k)
      → length (put eq mode pairs k v) ≡ length pairs
  length-put_present mode pairs k v distinct found = length-put laws mode pairs k v distinct
      ∙ ap (λ b. cond b (length pairs) (length pairs + 1)) found

  pub length-to_back_present : (pairs : List (K × V)) (k : K) (v : V) → IsDistinct eq (keys_of pairs) → IsSome (find eq pairs k)
      → length (to_back eq pairs k v) ≡ length pairs
  length-to_back_present = length-put_present Touch

-- one more pair at most
most : (b : Bool) (n length_after : ℕ) → length_after ≡ cond b n (n + 1) → length_after ≤ n + 1
most b n length_after h = grind arith

pub length-set_or_push_most : {K V : Type 0} (eq : K → K → Bool) (pairs : List (K × V)) (k : K) (v : V)
    → length (set_or_push eq pairs k v) ≤ length pairs + 1
length-set_or_push_most eq pairs k v = most (is_some (find eq pairs k)) (length pairs)
    (length (set_or_push eq pairs k v)) (length-set_or_push eq pairs k v)

pub distinct-nil : {K : Type 0} (eq : K → K → Bool) → IsDistinct eq []
unfolding IsDistinct
distinct-nil eq = tt

-- a new key in place of the oldest: the first pair goes, the others stand, and the new one is last
find_drop : {K V : Type 0} (test : K → Bool) (n : ℕ) (pairs : List (K × V))
    → lookup_entry test pairs ≡ None → lookup_entry test (drop n pairs) ≡ None
find_drop test zero pairs none = none
find_drop test (suc n) [] none = none
find_drop test (suc n) (pair ∷ pairs) none = find_drop test n pairs (by_test (test pair.0) none)
  where
    by_test : (b : Bool) → cond b (Some pair) (lookup_entry test pairs) ≡ None → lookup_entry test pairs ≡ None
    by_test true h = absurd (true≢false (ap is_some h))
    by_test false h = h

pub find-drop : {A K V : Type 0} (eq : A → K → Bool) (pairs : List (K × V)) (k : A) (n : ℕ)
    → find eq pairs k ≡ None → find eq (drop n pairs) k ≡ None
find-drop eq pairs k n absent = find_drop (eq k) n pairs absent

-- the keys of a list with one pair more, and of one without its first or last
module _ {K V : Type 0} (pairs : List (K × V)) where
  pub keys_of-append : (k : K) (v : V) → keys_of (pairs ++ (k, v) ∷ []) ≡ keys_of pairs ++ k ∷ []
  keys_of-append k v = map-append (λ (pair : K × V). pair.0) pairs ((k, v) ∷ [])

  pub keys_of-without_first : keys_of (without_first pairs) ≡ without_first (keys_of pairs)
  keys_of-without_first = sym (drop-map (λ (pair : K × V). pair.0) 1 pairs)

  pub keys_of-without_last : keys_of (without_last pairs) ≡ without_last (keys_of pairs)
  keys_of-without_last = grind (arith, take-map, length-map)

  pub first-keys_of : first (keys_of pairs) ≡ option_map (λ pair. pair.0) (first pairs)
  first-keys_of = by_list pairs
    where
      by_list : (ps : List (K × V)) → first (keys_of ps) ≡ option_map (λ pair. pair.0) (first ps)
      by_list [] = refl
      by_list (pair ∷ ps) = refl

-- the keys after an insertion in Touch, in words of the keys alone
pub ruleset stored_keys = (keys_of-to_back, key_or-find)

-- keys at the ends
pub ruleset end_keys = (keys_of-append, keys_of-without_first, keys_of-without_last, first-keys_of)

-- a key that is absent, put in behind the others, in either mode
pub ruleset absent_keys = (put-absent)
