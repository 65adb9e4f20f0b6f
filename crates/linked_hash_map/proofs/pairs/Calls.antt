-- Calls on a list of pairs.
use Rattle.std.proofs.Common.{◌≡◌, suc, ◌+◌, Bool, true, false, cond, not, ◌||◌, List, [], ◌∷◌, ◌++◌, length, filter, Some, None, is_some}
use Rattle.std.proofs.Common.{refl, sym, ap, ap₂, ◌∙◌, true≢false, arith, length-append}
use Rattle.std.proofs.lemmas.{List.length-map, Map.Keys.IsDistinct-head, Map.Keys.IsDistinct-tail}
use Rattle.std.specs.{List.list_any, List.IsDistinct, Option.IsSome, Map.lookup_entry, Map.keys_of, Cmp.IsEquivalence}
use Rattle.linked_hash_map.specs.declared.map.Mode.{Mode}
use Rattle.linked_hash_map.specs.Pairs.{key_or, find, value_at, without, to_back, set_key, set_value, set_or_push, put}
use Rattle.linked_hash_map.proofs.{log.LiveKeys.same_test, log.LiveKeys.none_is, lists.Distinct.none_from_all}

-- a test that no key passes finds nothing
pub lookup_entry-none : {K V : Type 0} (test : K → Bool) (pairs : List (K × V))
    → list_any test (keys_of pairs) ≡ false → lookup_entry test pairs ≡ None
lookup_entry-none test [] h = refl
lookup_entry-none test (pair ∷ pairs) h = by_test (lookup_entry-none test pairs) (test pair.0) h
  where
    by_test : (list_any test (keys_of pairs) ≡ false → lookup_entry test pairs ≡ None) → (b : Bool)
        → (b || list_any test (keys_of pairs)) ≡ false
        → cond b (Some pair) (lookup_entry test pairs) ≡ None
    by_test rest true h = absurd (true≢false h)
    by_test rest false h = rest h

-- and if a test finds nothing, no key passes it
pub list_any-none : {K V : Type 0} (test : K → Bool) (pairs : List (K × V))
    → lookup_entry test pairs ≡ None → list_any test (keys_of pairs) ≡ false
list_any-none test [] h = refl
list_any-none test (pair ∷ pairs) h = by_test (list_any-none test pairs) (test pair.0) h
  where
    by_test : (lookup_entry test pairs ≡ None → list_any test (keys_of pairs) ≡ false) → (b : Bool)
        → cond b (Some pair) (lookup_entry test pairs) ≡ None
        → (b || list_any test (keys_of pairs)) ≡ false
    by_test rest true h = absurd (true≢false (ap is_some h))
    by_test rest false h = rest h

-- the pairs except one that is not there
pub filter-none : {K V : Type 0} (test : K → Bool) (pairs : List (K × V))
    → lookup_entry test pairs ≡ None → filter (λ pair. not (test pair.0)) pairs ≡ pairs
filter-none test [] h = refl
filter-none test (pair ∷ pairs) h = by_test (filter-none test pairs) (test pair.0) h
  where
    by_test : (lookup_entry test pairs ≡ None → filter (λ pair. not (test pair.0)) pairs ≡ pairs)
        → (b : Bool) → cond b (Some pair) (lookup_entry test pairs) ≡ None
        → cond (not b) (pair ∷ filter (λ pair. not (test pair.0)) pairs)
        (filter (λ pair. not (test pair.0)) pairs) ≡ pair ∷ pairs
    by_test rest true h = absurd (true≢false (ap is_some h))
    by_test rest false h = ap (λ ps. pair ∷ ps) (rest h)

-- the pairs, with another value for one that is not there
pub set_value-none : {A K V : Type 0} (eq : A → K → Bool) (pairs : List (K × V)) (k : A) (v : V)
    → find eq pairs k ≡ None → set_value eq pairs k v ≡ pairs
set_value-none eq [] k v h = refl
set_value-none eq (first ∷ pairs) k v h = by_test (set_value-none eq pairs k v) (eq k first.0) h
  where
    by_test : (find eq pairs k ≡ None → set_value eq pairs k v ≡ pairs) → (b : Bool)
        → cond b (Some first) (find eq pairs k) ≡ None
        → cond b (first.0, v) first ∷ set_value eq pairs k v ≡ first ∷ pairs
    by_test rest true h = absurd (true≢false (ap is_some h))
    by_test rest false h = ap (λ ps. first ∷ ps) (rest h)

-- the pairs, with another key for one that is not there
pub set_key-absent : {K V : Type 0} (eq : K → K → Bool) (pairs : List (K × V)) (k : K) → find eq pairs k ≡ None → set_key eq pairs k ≡ pairs
set_key-absent eq [] k h = refl
set_key-absent eq (first ∷ pairs) k h = by_test (set_key-absent eq pairs k) (eq k first.0) h
  where
    by_test : (find eq pairs k ≡ None → set_key eq pairs k ≡ pairs) → (b : Bool)
        → cond b (Some first) (find eq pairs k) ≡ None
        → (cond b k first.0, first.1) ∷ set_key eq pairs k ≡ first ∷ pairs
    by_test rest true h = absurd (true≢false (ap is_some h))
    by_test rest false h = ap (λ ps. first ∷ ps) (rest h)

-- a key has a pair exactly if it has a value
pub is_some-value_at : {A K V : Type 0} (eq : A → K → Bool) (pairs : List (K × V)) (k : A)
    → is_some (value_at eq pairs k) ≡ is_some (find eq pairs k)
is_some-value_at eq pairs k = grind arith

-- a key that has no value has no pair
pub find-none : {A K V : Type 0} (eq : A → K → Bool) (pairs : List (K × V)) (k : A) → value_at eq pairs k ≡ None → find eq pairs k ≡ None
find-none eq pairs k none = none_is (find eq pairs k) (sym (is_some-value_at eq pairs k) ∙ ap is_some none)

-- calls with a key that is absent
pub without-absent : {A K V : Type 0} (eq : A → K → Bool) (pairs : List (K × V)) (k : A) → find eq pairs k ≡ None
    → without eq pairs k ≡ pairs
without-absent eq pairs k none = filter-none (eq k) pairs none

module _ {K V : Type 0} (eq : K → K → Bool) where
  pub to_back-absent : (pairs : List (K × V)) (k : K) (v : V) → find eq pairs k ≡ None → to_back eq pairs k v ≡ pairs ++ (k, v) ∷ []
  to_back-absent pairs k v none = ap₂ (λ ps o. ps ++ (key_or k o, v) ∷ []) (without-absent eq pairs k none) none

  pub set_or_push-absent : (pairs : List (K × V)) (k : K) (v : V) → find eq pairs k ≡ None → set_or_push eq pairs k v ≡ pairs ++ (k, v) ∷ []
  set_or_push-absent pairs k v none = ap (λ o. cond (is_some o) (set_value eq pairs k v) (pairs ++ (k, v) ∷ [])) none

  pub put-absent : (mode : Mode) (pairs : List (K × V)) (k : K) (v : V) → find eq pairs k ≡ None
      → put eq mode pairs k v ≡ pairs ++ (k, v) ∷ []
  put-absent mode pairs k v none = grind (arith, to_back-absent, set_or_push-absent)

  -- and with one that is present
  pub set_or_push-present : (pairs : List (K × V)) (k : K) (v : V) → IsSome (find eq pairs k)
      → set_or_push eq pairs k v ≡ set_value eq pairs k v
  set_or_push-present pairs k v there = ap (λ b. cond b (set_value eq pairs k v) (pairs ++ (k, v) ∷ [])) there

  -- a value that is set changes not how many there are
  pub length-set_value : (pairs : List (K × V)) (k : K) (v : V) → length (set_value eq pairs k v) ≡ length pairs
  length-set_value pairs k v = length-map pairs (λ pair. cond (eq k pair.0) (pair.0, v) pair)

  -- one more pair, unless the key has one
  pub length-set_or_push : (pairs : List (K × V)) (k : K) (v : V)
      → length (set_or_push eq pairs k v) ≡ cond (is_some (find eq pairs k)) (length pairs) (length pairs + 1)
  length-set_or_push pairs k v = grind (arith, length-set_value, length-append)

module _ {K V : Type 0} {eq : K → K → Bool} (laws : IsEquivalence eq) where
  -- the pairs except that of a key, one fewer if the key has a pair
  pub length-without : (pairs : List (K × V)) (k : K) → IsDistinct eq (keys_of pairs)
      → length (without eq pairs k) + cond (is_some (find eq pairs k)) 1 0 ≡ length pairs
  length-without [] k distinct = omega arith
  length-without (pair ∷ pairs) k distinct = by_test (eq k pair.0) refl
      (length-without pairs k (IsDistinct-tail eq pair.0 (keys_of pairs) distinct))
    where
      others : eq k pair.0 ≡ true → lookup_entry (eq k) pairs ≡ None
      others h = lookup_entry-none (eq k) pairs (ap (λ test. list_any test (keys_of pairs))
          (same_test laws k pair.0 h) ∙ none_from_all (eq pair.0) (keys_of pairs)
          (IsDistinct-head eq pair.0 (keys_of pairs) distinct))

      by_test : (b : Bool) → eq k pair.0 ≡ b
          → length (without eq pairs k) + cond (is_some (find eq pairs k)) 1 0 ≡ length pairs
          → length (cond (not b) (pair ∷ without eq pairs k) (without eq pairs k))
          + cond (is_some (cond b (Some pair) (find eq pairs k))) 1 0 ≡ suc (length pairs)
      by_test true h rest =
          let same : length (without eq pairs k) ≡ length pairs =
          ap length (filter-none (eq k) pairs (others h)) in
          omega arith
      by_test false h rest = omega arith

  -- one more pair, unless the key has one
  pub length-to_back : (pairs : List (K × V)) (k : K) (v : V) → IsDistinct eq (keys_of pairs)
      → length (to_back eq pairs k v) ≡ cond (is_some (find eq pairs k)) (length pairs) (length pairs + 1)
  length-to_back pairs k v distinct = grind (arith, length-without, length-append)

  -- and so in either mode
  pub length-put : (mode : Mode) (pairs : List (K × V)) (k : K) (v : V) → IsDistinct eq (keys_of pairs)
      → length (put eq mode pairs k v) ≡ cond (is_some (find eq pairs k)) (length pairs) (length pairs + 1)
  length-put mode pairs k v distinct = grind (arith, length-to_back, length-set_or_push)
