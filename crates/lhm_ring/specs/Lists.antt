-- A fact of each element of a list, from another of each, or of every element.
use Rattle.std.specs.Prelude.{List, [], ◌∷◌}
use Rattle.std.specs.List.{AllByRecursion}

module _ {X : Type 0} (P : X → Type 0) where
  pub AllByRecursion-map : (Q : X → Type 0) → ((x : X) → P x → Q x) → (xs : List X)
      → AllByRecursion P xs → AllByRecursion Q xs
  AllByRecursion-map Q f [] a = tt
  AllByRecursion-map Q f (x ∷ xs) a = (f x a.0, AllByRecursion-map Q f xs a.1)

  pub AllByRecursion-always : ((x : X) → P x) → (xs : List X) → AllByRecursion P xs
  AllByRecursion-always f [] = tt
  AllByRecursion-always f (x ∷ xs) = (f x, AllByRecursion-always f xs)
