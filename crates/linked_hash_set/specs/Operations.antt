-- Operations on two sets, as lists of items, front to back.
use Rattle.std.specs.Prelude.{Bool, not, List, ◌++◌, ◌==◌, filter, length}
use Rattle.linked_hash_set.specs.Items.{contains}

module _ {T : Type 0} (eq : T → T → Bool) (xs ys : List T) where
  -- the items of xs that are not in ys, in the order of xs
  abbrev pub difference : List T
  difference = filter (λ x. not (contains eq ys x)) xs

  -- the items of xs that are in ys, in the order of xs
  abbrev pub intersection : List T
  intersection = filter (contains eq ys) xs

  -- no item of xs is not in ys
  abbrev pub is_subset : Bool
  is_subset = length difference == 0

  -- no item of xs is in ys
  abbrev pub is_disjoint : Bool
  is_disjoint = length intersection == 0

module _ {T : Type 0} (eq : T → T → Bool) (xs ys : List T) where
  -- the items of xs, and then those of ys that are not in xs
  abbrev pub union : List T
  union = xs ++ difference eq ys xs

  -- the items of xs that are not in ys, and then those of ys that are not in xs
  abbrev pub symmetric_difference : List T
  symmetric_difference = difference eq xs ys ++ difference eq ys xs
