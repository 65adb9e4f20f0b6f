-- For callers: maps whose values are numbers from 0 on, in the order of the places.
use Rattle.std.proofs.Common.{◌≡◌, ℕ, zero, suc, ◌+◌, ◌<◌, ◌≤◌, Bool, true, false, cond, List, [], ◌∷◌, ◌++◌, length, Option, Some, None}
use Rattle.std.proofs.Common.{IfSome, IsSome, option_map, refl, subst, ap, ◌∙◌, arith, length-append}
use Rattle.std.specs.{Cmp.IsEquivalence, List.range_with_len, Map.values_of}
use Rattle.linked_hash_map.specs.Pairs.{find, value_at}

pub values_of-append : {K V : Type 0} (pairs : List (K × V)) (k : K) (v : V) → values_of (pairs ++ (k, v) ∷ []) ≡ values_of pairs ++ v ∷ []
values_of-append [] k v = refl
values_of-append (pair ∷ pairs) k v = ap (λ vs. pair.1 ∷ vs) (values_of-append pairs k v)

pub range_with_len-append : (a n : ℕ) → range_with_len a n ++ (a + n) ∷ [] ≡ range_with_len a (n + 1)
range_with_len-append a zero = let same : a + 0 ≡ a = omega arith in ap (λ (i : ℕ). i ∷ []) same
range_with_len-append a (suc n) = grind (arith, range_with_len-append (a + 1) n)

-- the next number at the back. The first part shows `grind` the call to match
pub values_of_dense_push : {K : Type 0} (pairs : List (K × ℕ)) (k : K) (n : ℕ) → n ≡ length pairs
    → values_of pairs ≡ range_with_len 0 (length pairs)
    → (pairs ++ (k, n) ∷ [] ≡ pairs ++ (k, n) ∷ []) × (values_of (pairs ++ (k, n) ∷ []) ≡ range_with_len 0 (length (pairs ++ (k, n) ∷ [])))
values_of_dense_push pairs k n next dense =
    let zero_more : n ≡ 0 + length pairs = omega arith in
    grind (arith, length-append, values_of-append, range_with_len-append)

-- each number is below the number of pairs
below : {K : Type 0} (eq : K → K → Bool) (a : ℕ) (pairs : List (K × ℕ)) (k : K) → values_of pairs ≡ range_with_len a (length pairs)
    → IfSome (value_at eq pairs k) (λ n. n < a + length pairs)
below eq a [] k dense = tt
below {K = K} eq a (pair ∷ pairs) k dense = by_test (eq k pair.0) (below eq (a + 1) pairs k rest)
  where
    rest : values_of pairs ≡ range_with_len (a + 1) (length pairs)
    rest = let both : pair.1 ∷ values_of pairs ≡ a ∷ range_with_len (a + 1) (length pairs) = dense in cc

    own : pair.1 ≡ a
    own = let both : pair.1 ∷ values_of pairs ≡ a ∷ range_with_len (a + 1) (length pairs) = dense in cc

    weaker : (o : Option (K × ℕ))
        → IfSome (option_map (λ (p : K × ℕ). p.1) o) (λ n. n < (a + 1) + length pairs)
        → IfSome (option_map (λ (p : K × ℕ). p.1) o) (λ n. n < a + suc (length pairs))
    weaker None less = tt
    weaker (Some p) less = omega arith

    by_test : (b : Bool) → IfSome (value_at eq pairs k) (λ n. n < (a + 1) + length pairs)
        → IfSome (option_map (λ (p : K × ℕ). p.1) (cond b (Some pair) (find eq pairs k)))
        (λ n. n < a + suc (length pairs))
    by_test true less = let is_own = own in omega arith
    by_test false less = weaker (find eq pairs k) less

value_at_dense_below : {K : Type 0} (eq : K → K → Bool) (pairs : List (K × ℕ)) (k : K) → values_of pairs ≡ range_with_len 0 (length pairs)
    → IfSome (value_at eq pairs k) (λ n. n < length pairs)
value_at_dense_below {K = K} eq pairs k dense = at_zero (find eq pairs k) (below eq 0 pairs k dense)
  where
    at_zero : (o : Option (K × ℕ))
        → IfSome (option_map (λ (p : K × ℕ). p.1) o) (λ n. n < 0 + length pairs)
        → IfSome (option_map (λ (p : K × ℕ). p.1) o) (λ n. n < length pairs)
    at_zero None less = tt
    at_zero (Some p) less = omega arith

-- at every key at once; the first part shows `grind` the call to match
pub value_at_dense_each : {K : Type 0} (eq : K → K → Bool) (pairs : List (K × ℕ)) (k : K)
    → values_of pairs ≡ range_with_len 0 (length pairs)
    → (value_at eq pairs k ≡ value_at eq pairs k) × ((n : ℕ) → value_at eq pairs k ≡ Some n → n < length pairs)
value_at_dense_each eq pairs k dense = (
  refl,
  λ n found. subst (λ (p : Option ℕ). IfSome p (λ m. m < length pairs)) found
      (value_at_dense_below eq pairs k dense),
)

-- a number is no lower than the first
at_least : {K : Type 0} (eq : K → K → Bool) (a : ℕ) (pairs : List (K × ℕ)) (k : K) (n : ℕ)
    → values_of pairs ≡ range_with_len a (length pairs) → value_at eq pairs k ≡ Some n → a ≤ n
at_least eq a [] k n dense found = absurd (let no : None ≡ Some n = found in cc)
at_least {K = K} eq a (pair ∷ pairs) k n dense found =
    let both : pair.1 ∷ values_of pairs ≡ a ∷ range_with_len (a + 1) (length pairs) = dense in
    let own : pair.1 ≡ a = cc in let rest : values_of pairs ≡ range_with_len (a + 1) (length pairs) = cc in
    by_test own (eq k pair.0) found (at_least eq (a + 1) pairs k n rest)
  where
    by_test : pair.1 ≡ a → (b : Bool)
        → option_map (λ (p : K × ℕ). p.1) (cond b (Some pair) (find eq pairs k)) ≡ Some n
        → (value_at eq pairs k ≡ Some n → a + 1 ≤ n) → a ≤ n
    by_test own true found less = let same : pair.1 ≡ n = cc in omega arith
    by_test own false found less = let later = less found in omega arith

-- keys with one number are the same
module _ {K : Type 0} {eq : K → K → Bool} (laws : IsEquivalence eq) where
  one_key : (a : ℕ) (pairs : List (K × ℕ)) (j k : K) (n : ℕ) → values_of pairs ≡ range_with_len a (length pairs)
      → value_at eq pairs j ≡ Some n → value_at eq pairs k ≡ Some n → eq j k ≡ true
  one_key a [] j k n dense found again = absurd (let no : None ≡ Some n = found in cc)
  one_key a (pair ∷ pairs) j k n dense found again =
      let both : pair.1 ∷ values_of pairs ≡ a ∷ range_with_len (a + 1) (length pairs) = dense in
      let own : pair.1 ≡ a = cc in let rest : values_of pairs ≡ range_with_len (a + 1) (length pairs) = cc in
      by_tests own rest (one_key (a + 1) pairs j k n rest) (eq j pair.0) (eq k pair.0) refl refl found again
    where
      by_tests : pair.1 ≡ a → values_of pairs ≡ range_with_len (a + 1) (length pairs)
          → (value_at eq pairs j ≡ Some n → value_at eq pairs k ≡ Some n → eq j k ≡ true)
          → (b c : Bool) → eq j pair.0 ≡ b → eq k pair.0 ≡ c
          → option_map (λ (p : K × ℕ). p.1) (cond b (Some pair) (find eq pairs j)) ≡ Some n
          → option_map (λ (p : K × ℕ). p.1) (cond c (Some pair) (find eq pairs k)) ≡ Some n
          → eq j k ≡ true
      by_tests own rest later true true is same found again = laws.congr j pair.0 k is ∙ laws.symm pair.0 k ∙ same
      by_tests own rest later true false is apart found again =
          let first : pair.1 ≡ n = cc in let above = at_least eq (a + 1) pairs k n rest again in
          absurd (omega arith)
      by_tests own rest later false true apart same found again =
          let first : pair.1 ≡ n = cc in let above = at_least eq (a + 1) pairs j n rest found in
          absurd (omega arith)
      by_tests own rest later false false is same found again = later found again

  -- the first part shows `grind` the call to match
  pub eq-dense : (pairs : List (K × ℕ)) (j : K) → values_of pairs ≡ range_with_len 0 (length pairs)
      → (value_at eq pairs j ≡ value_at eq pairs j)
      × ((k : K) (n : ℕ) → value_at eq pairs j ≡ Some n → value_at eq pairs k ≡ Some n
      → eq j k ≡ true)
  eq-dense pairs j dense = (refl, λ k n. one_key 0 pairs j k n dense)

  -- the same, which `grind` takes up only at a key that has a number
  pub eq-dense_found : (pairs : List (K × ℕ)) (j : K) → values_of pairs ≡ range_with_len 0 (length pairs)
      → IsSome (value_at eq pairs j)
      → (value_at eq pairs j ≡ value_at eq pairs j)
      × ((k : K) (n : ℕ) → value_at eq pairs j ≡ Some n → value_at eq pairs k ≡ Some n
      → eq j k ≡ true)
  eq-dense_found pairs j dense found = eq-dense pairs j dense

-- maps that number their keys from 0 on
pub ruleset dense = (values_of_dense_push, value_at_dense_each, eq-dense)

-- less of this: that the numbers are below the count, and that no two keys have one
pub ruleset dense_below = (values_of_dense_push, value_at_dense_each)

pub ruleset dense_apart = (values_of_dense_push, eq-dense_found)
