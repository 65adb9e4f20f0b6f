-- How far a visit that keeps some of the pairs has come.
use Rattle.std.specs.Prelude.{◌≡◌, Bool, List, ◌++◌, map, filter}
use Rattle.std.specs.Map.{keys_of}

-- the pairs at the start are those passed and the rest, whose keys are left to visit; the pairs now
-- are those of the passed that are kept, and the rest
pub record VisitKeeps {K V : Type 0} (keeps : K × V → Bool) (start now : List (K × V))
    (left : List K) : Type 0 where
  pub passed : List (K × V)
  pub rest : List (K × V)
  pub start_is : start ≡ passed ++ rest
  pub now_is : now ≡ filter keeps passed ++ rest
  pub left_is : left ≡ keys_of rest

-- as `VisitKeeps`, and the pairs that are kept have changed values
pub record VisitMaps {K V : Type 0} (keeps : K × V → Bool) (change : K × V → V)
    (start now : List (K × V)) (left : List K) : Type 0 where
  pub passed : List (K × V)
  pub rest : List (K × V)
  pub start_is : start ≡ passed ++ rest
  pub now_is : now ≡ map (λ pair. (pair.0, change pair)) (filter keeps passed) ++ rest
  pub left_is : left ≡ keys_of rest
