-- Lists that are one another in another order.
use Rattle.std.specs.Prelude.{List, Bool, count_by, ◌≡◌}
use native.Mathlib.Nat.{ℕ_set}

-- ys has the elements of xs, each as often, in any order: as many of both pass each test
abbrev pub IsRearranged : {X : Type 0} → List X → List X → Type 0
IsRearranged {X} xs ys = (p : X → Bool) → count_by p xs ≡ count_by p ys

pub IsRearranged-prop : {X : Type 0} (xs ys : List X) → IsProp (IsRearranged xs ys)
IsRearranged-prop xs ys h k = λ i p. ℕ_set _ _ (h p) (k p) i
