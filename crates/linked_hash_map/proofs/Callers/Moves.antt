-- For callers: the pairs with one moved to the back or to the front, as it is, or rotated. Each key
-- finds what it found.
use Rattle.std.proofs.Common.{◌≡◌, ℕ, Bool, true, false, cond, List, [], ◌∷◌, ◌++◌, take, drop, Option, Some, None, arith, option_to_list}
use Rattle.std.proofs.Common.{refl, sym, ap, ◌∙◌, is_some, length, length-append}
use Rattle.std.proofs.lemmas.{List.append-nil, List.take-append-drop, Map.Keys.IsDistinct-tail}
use Rattle.std.specs.{Cmp.IsEquivalence, List.IsDistinct, Map.keys_of, Option.option_or}
use Rattle.linked_hash_map.specs.Pairs.{key_or, find, without, to_back_as_is, to_front}
use Rattle.linked_hash_map.proofs.Callers.{Keys.length-without, Keys.without-absent, Lookups.eq-find, Lookups.find-same}
use Rattle.linked_hash_map.proofs.Callers.Lookups.{find-without, find-to_back, lookup_entry-append}
use Rattle.linked_hash_map.proofs.pairs.{Calls.filter-none, Indexes.others_differ}

-- of a key that is absent
module _ {A K V : Type 0} (eq : A → K → Bool) (pairs : List (K × V)) (k : A) (none : find eq pairs k ≡ None) where
  pub to_back_as_is-absent : to_back_as_is eq pairs k ≡ pairs
  to_back_as_is-absent = ap (λ o. without eq pairs k ++ option_to_list o) none
      ∙ append-nil (without eq pairs k) ∙ filter-none (eq k) pairs none

  pub to_front-absent : to_front eq pairs k ≡ pairs
  to_front-absent = ap (λ o. option_to_list o ++ without eq pairs k) none ∙ filter-none (eq k) pairs none

module _ {K V : Type 0} {eq : K → K → Bool} (laws : IsEquivalence eq) (pairs : List (K × V)) (k q : K) where
  -- the pair of k is what k finds, and each key that is the same
  same_pair : {pair : K × V} → find eq pairs k ≡ Some pair → (b : Bool) → eq k q ≡ b
      → cond b (Some pair) (find eq pairs q) ≡ find eq pairs q
  same_pair found b same = grind (arith, find-same)

  pub find-to_back_as_is : find eq (to_back_as_is eq pairs k) q ≡ find eq pairs q
  find-to_back_as_is = by_pair (find eq pairs k) refl
    where
      by_pair : (o : Option (K × V)) → find eq pairs k ≡ o
          → find eq (without eq pairs k ++ option_to_list o) q ≡ find eq pairs q
      by_pair None none = ap (λ ps. find eq ps q) (append-nil (without eq pairs k) ∙ without-absent eq pairs k none)
      by_pair (Some pair) found =
          ap (λ o. find eq (without eq pairs k ++ (key_or k o, pair.1) ∷ []) q) (sym found)
          ∙ find-to_back laws pairs k q pair.1
          ∙ ap (λ o. cond (eq k q) (Some (key_or k o, pair.1)) (find eq pairs q)) found
          ∙ same_pair found (eq k q) refl

  pub find-to_front : find eq (to_front eq pairs k) q ≡ find eq pairs q
  find-to_front = by_pair (find eq pairs k) refl
    where
      twice : (b : Bool) (pair : K × V) → cond b (Some pair) (cond b None (find eq pairs q)) ≡ cond b (Some pair) (find eq pairs q)
      twice true pair = refl
      twice false pair = refl

      by_pair : (o : Option (K × V)) → find eq pairs k ≡ o
          → find eq (option_to_list o ++ without eq pairs k) q ≡ find eq pairs q
      by_pair None none = ap (λ ps. find eq ps q) (without-absent eq pairs k none)
      by_pair (Some pair) found =
          ap (λ b. cond b (Some pair) (find eq (without eq pairs k) q))
          (laws.symm q pair.0 ∙ sym (laws.congr k pair.0 q (eq-find laws pairs k pair found)))
          ∙ ap (λ o. cond (eq k q) (Some pair) o) (find-without laws pairs k q)
          ∙ twice (eq k q) pair ∙ same_pair found (eq k q) refl

-- there are as many pairs
length-option_to_list : {X : Type 0} (o : Option X) → length (option_to_list o) ≡ cond (is_some o) 1 0
length-option_to_list None = refl
length-option_to_list (Some x) = refl

module _ {K V : Type 0} {eq : K → K → Bool} (laws : IsEquivalence eq) (pairs : List (K × V)) (k : K)
    (distinct : IsDistinct eq (keys_of pairs)) where
  pub length-to_back_as_is : length (to_back_as_is eq pairs k) ≡ length pairs
  length-to_back_as_is = grind (arith, length-append, length-option_to_list, length-without)

  pub length-to_front : length (to_front eq pairs k) ≡ length pairs
  length-to_front = grind (arith, length-append, length-option_to_list, length-without)

module _ {K V : Type 0} {eq : K → K → Bool} (laws : IsEquivalence eq) (q : K) where
  -- what neither of two lists has
  neither : (o p : Option (K × V)) → option_or o p ≡ None → p ≡ None
  neither o p e = grind arith

  -- what one part of pairs with different keys has, the other does not
  other_lacks : (xs ys : List (K × V)) (pair : K × V) → IsDistinct eq (keys_of (xs ++ ys)) → find eq xs q ≡ Some pair → find eq ys q ≡ None
  other_lacks [] ys pair distinct found = absurd cc
  other_lacks (x ∷ xs) ys pair distinct found = by_test (other_lacks xs ys pair (IsDistinct-tail eq x.0 (keys_of (xs ++ ys)) distinct))
      (eq q x.0) refl found
    where
      by_test : (find eq xs q ≡ Some pair → find eq ys q ≡ None) → (b : Bool) → eq q x.0 ≡ b
          → cond b (Some x) (find eq xs q) ≡ Some pair → find eq ys q ≡ None
      by_test rest true same here = neither (find eq xs q) (find eq ys q)
          (sym (lookup_entry-append (eq q) xs ys) ∙ others_differ laws q x (xs ++ ys) distinct same)
      by_test rest false apart there = rest there

  find-swapped : (xs ys : List (K × V)) → IsDistinct eq (keys_of (xs ++ ys)) → find eq (ys ++ xs) q ≡ find eq (xs ++ ys) q
  find-swapped xs ys distinct = grind (arith, lookup_entry-append, other_lacks)

  pub find-rotated : (count : ℕ) (pairs : List (K × V)) → IsDistinct eq (keys_of pairs)
      → find eq (drop count pairs ++ take count pairs) q ≡ find eq pairs q
  find-rotated count pairs distinct = grind (arith, take-append-drop, find-swapped)
