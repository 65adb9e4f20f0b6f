-- For callers: what is true of each pair, as that its value is right, still is after a call.
use Rattle.std.proofs.Common.{◌≡◌, Bool, true, false, cond, not, List, [], ◌∷◌, ◌++◌, arith, is_some, Option, Some, option_to_list, IfSome}
use Rattle.std.proofs.Common.{◌⊎◌, ℕ, ◌<◌, inl, inr, refl, sym, ap, subst, get_or, length, nat_eq}
use Rattle.std.proofs.lemmas.List.Elements.{All-nil, All-cons, All-head, All-tail, All-append, All-push, All-filter, All-weaker}
use Rattle.std.proofs.lemmas.{Bool.eqb-true, List.Elements.All-contains_itself}
use Rattle.std.specs.{Cmp.IsEquivalence, Cmp.nat_eq_equiv, List.All, List.Contains, Map.lookup_entry}
use Rattle.linked_hash_map.specs.Pairs.{key_or, find, without, to_back, to_back_as_is, to_front, set_value, set_or_push, put}
use Rattle.linked_hash_map.{specs.declared.map.Mode.Mode, proofs.Callers.Lookups.eq-stored, proofs.Callers.Lookups.eq-find}

module _ {K V : Type 0} (P : K × V → Type 0) where
  -- of the pair that a test finds
  pub All-lookup_entry : (test : K → Bool) (pairs : List (K × V)) → All P pairs → IfSome (lookup_entry test pairs) P
  All-lookup_entry test [] all = tt
  All-lookup_entry test (pair ∷ pairs) all =
      by_test (test pair.0) (All-head P pair pairs all) (All-lookup_entry test pairs (All-tail P pair pairs all))
    where
      by_test : (b : Bool) → P pair → IfSome (lookup_entry test pairs) P → IfSome (cond b (Some pair) (lookup_entry test pairs)) P
      by_test true first rest = first
      by_test false first rest = rest

  All-found : (o : Option (K × V)) → IfSome o P → All P (option_to_list o)
  All-found o all = grind (arith, All-nil, All-push)

  module _ {A : Type 0} (eq : A → K → Bool) (pairs : List (K × V)) (k : A) (all : All P pairs) where
    pub All-find : (pair : K × V) → find eq pairs k ≡ Some pair → P pair
    All-find pair found = subst (λ (o : Option (K × V)). IfSome o P) found (All-lookup_entry (eq k) pairs all)

    pub All-without : All P (without eq pairs k)
    All-without = All-filter (λ pair. not (eq k pair.0)) P pairs all

    pub All-to_back_as_is : All P (to_back_as_is eq pairs k)
    All-to_back_as_is = All-append P (without eq pairs k) (option_to_list (find eq pairs k)) All-without
        (All-found (find eq pairs k) (All-lookup_entry (eq k) pairs all))

    pub All-to_front : All P (to_front eq pairs k)
    All-to_front = All-append P (option_to_list (find eq pairs k)) (without eq pairs k)
        (All-found (find eq pairs k) (All-lookup_entry (eq k) pairs all)) All-without

  -- of a value that is written, if it is right for each key that is the same
  pub All-set_value : {A : Type 0} (eq : A → K → Bool) (pairs : List (K × V)) (k : A) (v : V) → All P pairs
      → ((key : K) → eq k key ≡ true → P (key, v)) → All P (set_value eq pairs k v)
  All-set_value eq [] k v all right = All-nil P
  All-set_value eq (pair ∷ pairs) k v all right = All-cons P (cond (eq k pair.0) (pair.0, v) pair) (set_value eq pairs k v)
      (by_test (eq k pair.0) refl) (All-set_value eq pairs k v (All-tail P pair pairs all) right)
    where
      by_test : (b : Bool) → eq k pair.0 ≡ b → P (cond b (pair.0, v) pair)
      by_test true same = right pair.0 same
      by_test false apart = All-head P pair pairs all

  module _ {eq : K → K → Bool} (laws : IsEquivalence eq) (pairs : List (K × V)) (k : K) (v : V) (all : All P pairs)
      (right : (key : K) → eq k key ≡ true → P (key, v)) where
    pub All-to_back : All P (to_back eq pairs k v)
    All-to_back = All-push P (without eq pairs k) (key_or k (find eq pairs k), v) (All-without eq pairs k all)
        (right (key_or k (find eq pairs k)) (eq-stored laws pairs k))

    pub All-set_or_push : All P (set_or_push eq pairs k v)
    All-set_or_push = by_test (is_some (find eq pairs k))
      where
        by_test : (b : Bool) → All P (cond b (set_value eq pairs k v) (pairs ++ (k, v) ∷ []))
        by_test true = All-set_value eq pairs k v all right
        by_test false = All-push P pairs (k, v) all (right k (laws.refl k))

  pub All-put : {eq : K → K → Bool} → IsEquivalence eq → (mode : Mode) (pairs : List (K × V)) (k : K) (v : V)
      → All P pairs → ((key : K) → eq k key ≡ true → P (key, v)) → All P (put eq mode pairs k v)
  All-put laws mode = grind (arith, All-to_back, All-set_or_push)

-- each pair after a call was there, or is the one that was put in
module _ {V : Type 0} (pairs : List (ℕ × V)) (k : ℕ) where
  pub in-found_number : (pair : ℕ × V) → find nat_eq pairs k ≡ Some pair
      → (find nat_eq pairs k ≡ find nat_eq pairs k) × (k ≡ pair.0) × Contains pairs pair
  in-found_number pair found = (
    refl,
    eqb-true k pair.0 (eq-find nat_eq_equiv pairs k pair found),
    All-find (Contains pairs) nat_eq pairs k (All-contains_itself pairs) pair found,
  )

  module _ (i : ℕ) (d : ℕ × V) where
    pub in-without_number : i < length (without nat_eq pairs k)
        → (get_or (without nat_eq pairs k) i d ≡ get_or (without nat_eq pairs k) i d) × Contains pairs (get_or (without nat_eq pairs k) i d)
    in-without_number within = (refl, All-without (Contains pairs) nat_eq pairs k (All-contains_itself pairs) i d within)

    pub in-to_back_as_is_number : i < length (to_back_as_is nat_eq pairs k)
        → (get_or (to_back_as_is nat_eq pairs k) i d ≡ get_or (to_back_as_is nat_eq pairs k) i d)
        × Contains pairs (get_or (to_back_as_is nat_eq pairs k) i d)
    in-to_back_as_is_number within = (refl, All-to_back_as_is (Contains pairs) nat_eq pairs k (All-contains_itself pairs) i d within)

    pub in-put_number : (mode : Mode) (v : V) → i < length (put nat_eq mode pairs k v)
        → (get_or (put nat_eq mode pairs k v) i d ≡ get_or (put nat_eq mode pairs k v) i d)
        × ((get_or (put nat_eq mode pairs k v) i d ≡ (k, v)) ⊎ Contains pairs (get_or (put nat_eq mode pairs k v) i d))
    in-put_number mode v within = (
      refl,
      All-put (λ (p : ℕ × V). (p ≡ (k, v)) ⊎ Contains pairs p) nat_eq_equiv mode pairs k v
          (All-weaker (Contains pairs) (λ (p : ℕ × V). (p ≡ (k, v)) ⊎ Contains pairs p) (λ p there. inr there) pairs
          (All-contains_itself pairs))
          (λ key same. inl (ap (λ (j : ℕ). (j, v)) (sym (eqb-true k key same)))) i d within,
    )

-- what is true of each pair, at numbers
pub ruleset each_pair = (in-found_number, in-without_number, in-to_back_as_is_number, in-put_number)
