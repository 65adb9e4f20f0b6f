-- The last element of a list, and the first, or another one if it is empty.
use Rattle.lhm_ring.proofs.Names.{AllByRecursion, List, SplitLast, [], ap, arith, refl, ◌∷◌}

module _ {X : Type 0} where
  abbrev pub first_from : X → List X → X
  first_from x [] = x
  first_from x (y ∷ ys) = y

  abbrev pub last_from : X → List X → X
  last_from x [] = x
  last_from x (y ∷ ys) = last_from y ys

  -- a list that is not empty has a last element
  pub SplitLast-last_from : (x : X) (xs : List X) → SplitLast (λ z. z) (x ∷ xs) (last_from x xs)
  SplitLast-last_from x [] = record { before = []; node = x; is = refl; at_is = refl }
  SplitLast-last_from x (y ∷ ys) = let on = SplitLast-last_from y ys in
      record {
        before = x ∷ on.before;
        node = on.node;
        is = ap (λ r. x ∷ r) on.is;
        at_is = on.at_is;
      }

  pub AllByRecursion-first : (P : X → Type 0) (x : X) (xs : List X) → P x → AllByRecursion P xs → P (first_from x xs)
  AllByRecursion-first P x xs h a = grind arith

  pub AllByRecursion-last : (P : X → Type 0) (x : X) (xs : List X) → P x → AllByRecursion P xs → P (last_from x xs)
  AllByRecursion-last P x [] h a = h
  AllByRecursion-last P x (y ∷ ys) h a = AllByRecursion-last P y ys a.0 a.1
