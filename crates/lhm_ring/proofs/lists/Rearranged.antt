-- Lists that are one another in another order.
use Rattle.lhm_ring.proofs.Names.{AllByRecursion, Bool, IsRearranged, List, PutsIn, SplitAt, [], ap, arith, cond, count_by, false, filter}
use Rattle.lhm_ring.proofs.Names.{length, refl, subst, sym, true, ℕ, ◌&&◌, ◌++◌, ◌+◌, ◌∙◌, ◌∷◌, ◌≡◌}
use Rattle.lhm_ring.proofs.lists.RearrangedCounts.{count_by-all, count_by-append, count_by-cons, count_by-filter}
use Rattle.lhm_ring.proofs.lists.{ForAll.AllByRecursion-removed, ForAll.AllByRecursion-right, Splits.SplitAround}

module _ {X : Type 0} where
  pub length-IsRearranged : (xs ys : List X) → IsRearranged xs ys → length xs ≡ length ys
  length-IsRearranged xs ys h = sym (count_by-all xs) ∙ h (λ x. true) ∙ count_by-all ys

  pub PutsIn-middle : (xs : List X) (x : X) (ys : List X) → PutsIn x (xs ++ ys) (xs ++ x ∷ ys)
  PutsIn-middle xs x ys p = grind (arith, count_by-append, count_by-cons)

  -- one element less in both, and one more
  module _ (us : List X) (x : X) (vs ys ys' : List X) (q : PutsIn x ys ys') where
    pub IsRearranged-less_middle : IsRearranged (us ++ x ∷ vs) ys' → IsRearranged (us ++ vs) ys
    IsRearranged-less_middle h p = let a = h p in let b = q p in grind (arith, PutsIn-middle, count_by-cons)

    pub IsRearranged-more_middle : IsRearranged (us ++ vs) ys → IsRearranged (us ++ x ∷ vs) ys'
    IsRearranged-more_middle h p = let a = h p in let b = q p in grind (arith, PutsIn-middle, count_by-cons)

  pub IsRearranged-filter : (t : X → Bool) (xs ys : List X) → IsRearranged xs ys → IsRearranged (filter t xs) (filter t ys)
  IsRearranged-filter t xs ys h p = count_by-filter p t xs ∙ h (λ x. t x && p x) ∙ sym (count_by-filter p t ys)

  -- those that pass a test, once an element is put in
  pub filter-PutsIn : (t : X → Bool) (x : X) (xs ys : List X) → PutsIn x xs ys → {b : Bool} → t x ≡ b
      → IsRearranged (cond b (x ∷ filter t xs) (filter t xs)) (filter t ys)
  filter-PutsIn t x xs ys h e =
      subst (λ b. IsRearranged (cond b (x ∷ filter t xs) (filter t xs)) (filter t ys)) e (IsRearranged-filter t (x ∷ xs) ys h)

-- an element that passes a test
pub SplitAt-counted : {X : Type 0} (t : X → Bool) (xs : List X) → (count_by t xs ≡ 0 → ⊥) → SplitAt t xs true
SplitAt-counted t [] h = absurd (h refl)
SplitAt-counted t (x ∷ xs) h = (elim (t x) as (λ b. t x ≡ b → SplitAt t (x ∷ xs) true) [
  | true ↦ λ e. record { before = []; node = x; after = xs; is = refl; at_is = e }
  | false ↦ λ e.
      let i = SplitAt-counted t xs (λ z. h (count_by-cons t x xs ∙ (λ j. cond {A = ℕ} (e j) 1 0 + z j))) in
      record { before = x ∷ i.before; node = i.node; after = i.after; is = ap (λ v. x ∷ v) i.is; at_is = i.at_is }
]) refl

-- elements that are told apart
module _ {X : Type 0} (same : X → X → Bool) (equal : (x y : X) → same x y ≡ true → x ≡ y) (reflexive : (x : X) → same x x ≡ true) where
  pub count_by-own : (x : X) (us vs : List X) → count_by (same x) (us ++ x ∷ vs) ≡ 0 → ⊥
  count_by-own x us vs z = grind (arith, count_by-append, count_by-cons, reflexive)

  -- each of a list is in another that is the same in another order
  pub SplitAround-IsRearranged : (xs : List X) (x : X) (ws zs : List X) → IsRearranged xs zs → PutsIn x ws zs → SplitAround xs x
  SplitAround-IsRearranged xs x ws zs h p =
      let k = SplitAt-counted (same x) xs (λ z. count_by-own x [] ws (p _ ∙ sym (h _) ∙ z)) in
      record { before = k.before; after = k.after; is = k.is ∙ ap (λ v. k.before ++ v ∷ k.after) (sym (equal x k.node k.at_is)) }

  -- what is so of each list and of another order of it, if it stays so when both get an element more
  pub IsRearranged-elim {ℓ} : (R : List X → List X → Type ℓ) → ((xs : List X) → R xs [])
      → ((us : List X) (x : X) (vs ys : List X) → R (us ++ vs) ys → R (us ++ x ∷ vs) (x ∷ ys))
      → (xs ys : List X) → IsRearranged xs ys → R xs ys
  IsRearranged-elim R none more xs [] h = none xs
  IsRearranged-elim R none more xs (y ∷ ys) h =
      let k = SplitAround-IsRearranged xs y ys (y ∷ ys) h (λ p. refl) in
      let left = IsRearranged-less_middle k.before y k.after ys (y ∷ ys) (λ p. refl) (subst (λ zs. IsRearranged zs (y ∷ ys)) k.is h) in
      subst (λ zs. R zs (y ∷ ys)) (sym k.is) (more k.before y k.after ys (IsRearranged-elim R none more (k.before ++ k.after) ys left))

  pub AllByRecursion-IsRearranged : (P : X → Type 0) (xs ys : List X) → IsRearranged xs ys → AllByRecursion P xs → AllByRecursion P ys
  AllByRecursion-IsRearranged P = IsRearranged-elim (λ xs ys. AllByRecursion P xs → AllByRecursion P ys) (λ xs a. tt)
      (λ us x vs ys i a. ((AllByRecursion-right P us (x ∷ vs) a).0, i (AllByRecursion-removed P us x vs a)))
