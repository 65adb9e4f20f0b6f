-- For callers: the pairs in another order, and in the reverse one. Each key finds what it found.
use Rattle.std.proofs.Common.{◌≡◌, suc, Bool, true, false, cond, List, [], ◌∷◌, reverse, Option, Some, None, refl, sym, ap, ◌∙◌, arith}
use Rattle.std.proofs.lemmas.List.Sorted.{IsPermutation-sym, IsPermutation-map, IsPermutation-reverse, Contains-permutation}
use Rattle.std.proofs.lemmas.{Map.Keys.IsDistinct-IsPermutation, Option.slice_get-get_or}
use Rattle.std.specs.{Cmp.IsEquivalence, List.Contains, List.IsDistinct, List.Sorted.IsPermutation, Map.keys_of}
use Rattle.linked_hash_map.specs.Pairs.{find}
use Rattle.linked_hash_map.proofs.{Callers.Lookups.eq-find, Callers.Lookups.find-same, lists.FromFirst.map-reverse, pairs.Indexes.find-own}

pub keys_of-reverse : {K V : Type 0} (pairs : List (K × V)) → keys_of (reverse pairs) ≡ reverse (keys_of pairs)
keys_of-reverse pairs = map-reverse (λ pair. pair.0) pairs

module _ {K V : Type 0} {eq : K → K → Bool} (laws : IsEquivalence eq) where
  -- what a key finds is one of the pairs
  Contains-find : (pairs : List (K × V)) (q : K) (pair : K × V) → find eq pairs q ≡ Some pair → Contains pairs pair
  Contains-find [] q pair found = absurd cc
  Contains-find (first ∷ pairs) q pair found = by_test (eq q first.0) found (Contains-find pairs q pair)
    where
      by_test : (b : Bool) → cond b (Some first) (find eq pairs q) ≡ Some pair
          → (find eq pairs q ≡ Some pair → Contains pairs pair) → Contains (first ∷ pairs) pair
      by_test true here rest = (0, omega arith, cc)
      by_test false there rest = let at = rest there in (suc at.0, omega (arith, at.1), at.2)

  -- and a pair with that key is found, if the keys differ
  find-contained : (pairs : List (K × V)) (q : K) (pair : K × V) → IsDistinct eq (keys_of pairs) → Contains pairs pair
      → eq q pair.0 ≡ true → find eq pairs q ≡ Some pair
  find-contained pairs q pair distinct has same =
      find-same laws pairs q pair.0 same
      ∙ find-own laws pairs distinct has.0 pair (slice_get-get_or pairs has.0 pair has.1 ∙ ap Some has.2)

  find-other_order : (pairs others : List (K × V)) (q : K) (pair : K × V) → IsDistinct eq (keys_of others)
      → IsPermutation pairs others → find eq pairs q ≡ Some pair → find eq others q ≡ Some pair
  find-other_order pairs others q pair distinct order found = find-contained others q pair distinct
      (Contains-permutation pairs others pair order (Contains-find pairs q pair found)) (eq-find laws pairs q pair found)

  -- after a sort
  pub find-permuted : (pairs others : List (K × V)) (q : K) → IsDistinct eq (keys_of pairs) → IsPermutation pairs others
      → find eq others q ≡ find eq pairs q
  find-permuted pairs others q distinct order = either (find eq pairs q) (find eq others q) refl refl
    where
      distinct_others : IsDistinct eq (keys_of others)
      distinct_others = IsDistinct-IsPermutation eq laws.symm (keys_of pairs) (keys_of others)
          (IsPermutation-map (λ (pair : K × V). pair.0) pairs others order) distinct

      either : (o p : Option (K × V)) → find eq pairs q ≡ o → find eq others q ≡ p → find eq others q ≡ find eq pairs q
      either (Some pair) p found other = find-other_order pairs others q pair distinct_others order found ∙ sym found
      either None (Some pair) none other =
          other ∙ sym (find-other_order others pairs q pair distinct (IsPermutation-sym pairs others order) other)
      either None None none other = other ∙ sym none

  pub find-reverse : (pairs : List (K × V)) (q : K) → IsDistinct eq (keys_of pairs) → find eq (reverse pairs) q ≡ find eq pairs q
  find-reverse pairs q distinct = find-permuted pairs (reverse pairs) q distinct (IsPermutation-reverse pairs)
