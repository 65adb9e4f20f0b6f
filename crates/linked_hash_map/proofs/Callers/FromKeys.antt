-- For callers: the pairs from that of a key on.
use Rattle.std.proofs.Common.{◌≡◌, ◌<◌, ◌≤◌, Bool, true, false, cond, List, [], ◌∷◌, ◌++◌, length, Some, None, is_some, refl, arith}
use Rattle.linked_hash_map.specs.Pairs.{find, first, from}

module _ {A K V : Type 0} (eq : A → K → Bool) where
  -- the first of them is what the key finds
  pub first-from : (pairs : List (K × V)) (k : A) → first (from eq pairs k) ≡ find eq pairs k
  first-from [] k = refl
  first-from (pair ∷ pairs) k = by_test (eq k pair.0) (first-from pairs k)
    where
      by_test : (b : Bool) → first (from eq pairs k) ≡ find eq pairs k
          → first (cond b (pair ∷ pairs) (from eq pairs k)) ≡ cond b (Some pair) (find eq pairs k)
      by_test true rest = refl
      by_test false rest = rest

  -- there are no more of them than of all, and at least the one that the key finds
  pub length-from : (pairs : List (K × V)) (k : A)
      → (length (from eq pairs k) ≤ length pairs) × (is_some (find eq pairs k) ≡ true → 0 < length (from eq pairs k))
  length-from [] k = (omega arith, λ there. grind arith)
  length-from (pair ∷ pairs) k = let rest = length-from pairs k in (grind (arith, rest), λ there. grind (arith, rest, there))

  -- of two lists, one after the other, of which the first has the key, or has not
  pub from-append : (pairs others : List (K × V)) (k : A) {pair : K × V} → find eq pairs k ≡ Some pair
      → from eq (pairs ++ others) k ≡ from eq pairs k ++ others
  from-append [] others k found = absurd (let no : None ≡ Some _ = found in cc)
  from-append (first ∷ pairs) others k {pair} found = by_test (eq k first.0) found (from-append pairs others k)
    where
      by_test : (b : Bool) → cond b (Some first) (find eq pairs k) ≡ Some pair
          → (find eq pairs k ≡ Some pair → from eq (pairs ++ others) k ≡ from eq pairs k ++ others)
          → cond b (first ∷ pairs ++ others) (from eq (pairs ++ others) k) ≡ cond b (first ∷ pairs) (from eq pairs k) ++ others
      by_test true found rest = refl
      by_test false found rest = rest found

  pub from-append_absent : (pairs others : List (K × V)) (k : A) → find eq pairs k ≡ None → from eq (pairs ++ others) k ≡ from eq others k
  from-append_absent [] others k absent = refl
  from-append_absent (first ∷ pairs) others k absent = by_test (eq k first.0) absent (from-append_absent pairs others k)
    where
      by_test : (b : Bool) → cond b (Some first) (find eq pairs k) ≡ None
          → (find eq pairs k ≡ None → from eq (pairs ++ others) k ≡ from eq others k)
          → cond b (first ∷ pairs ++ others) (from eq (pairs ++ others) k) ≡ from eq others k
      by_test true absent rest = absurd (let no : Some first ≡ None = absent in cc)
      by_test false absent rest = rest absent
