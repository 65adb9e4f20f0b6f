-- Single calls, on the list of a set's items, front to back.
use Rattle.std.specs.Prelude.{ℕ, ◌+◌, Bool, not, map, List, [], ◌∷◌, ◌++◌, filter, find as find_first}
use Rattle.std.specs.Prelude.{take, drop, Option, option_to_list, unwrap_or, if◌then◌else◌}
use Rattle.std.specs.List.{list_any, position_or_len}
use Rattle.linked_hash_map.specs.Pairs.{from_first}

-- by x, which is an item or looks one up: eq is whether it looks up an item
module _ {A T : Type 0} (eq : A → T → Bool) where
  -- an item is the same as x
  abbrev pub contains : List T → A → Bool
  contains items x = list_any (eq x) items

  -- the item that is the same as x, or none
  abbrev pub find : List T → A → Option T
  find items x = find_first (eq x) items

  -- the items except the one that is the same as x
  abbrev pub without : List T → A → List T
  without items x = filter (λ y. not (eq x y)) items

  -- the items, with the one that is the same as x at the back, if there is one
  abbrev pub to_back_as_is : List T → A → List T
  to_back_as_is items x = without items x ++ option_to_list (find items x)

  -- the items, with the one that is the same as x at the front, if there is one
  abbrev pub to_front : List T → A → List T
  to_front items x = option_to_list (find items x) ++ without items x

  -- the items from the one that is the same as x on, that one first
  abbrev pub from : List T → A → List T
  from items x = from_first (eq x) items

  -- how many items come before the one that is the same as x: all, if there is none
  abbrev pub count_before : List T → A → ℕ
  count_before items x = position_or_len (eq x) items

  -- the first n items except the one that is the same as x, then that one, as it is, then the
  -- others except it
  abbrev pub to_behind : List T → A → ℕ → List T
  to_behind items x n =
      without (take n items) x ++ (option_to_list (find items x) ++ without (drop n items) x)

-- by x and other, which look up items
module _ {A B T : Type 0} (eq : A → T → Bool) (eq_other : B → T → Bool) where
  -- the items, with that of x right before that of other; in its place if they are one
  abbrev pub to_before : List T → A → B → List T
  to_before items x other = to_behind eq items x (count_before eq_other items other)

  -- the items, with that of x right behind that of other; in its place if they are one
  abbrev pub to_after : List T → A → B → List T
  to_after items x other = to_behind eq items x (count_before eq_other items other + 1)

module _ {T : Type 0} (eq : T → T → Bool) where
  -- the items except the one that is the same as x, and then the stored item, or x if there is none
  abbrev pub to_back : List T → T → List T
  to_back items x = without eq items x ++ unwrap_or (find eq items x) x ∷ []

  -- the stored item, or x if there is none, and then the items except the one that is the same as x
  abbrev pub put_front : List T → T → List T
  put_front items x = unwrap_or (find eq items x) x ∷ without eq items x

  -- the items, with x at the back if none is the same
  abbrev pub push_if_absent : List T → T → List T
  push_if_absent items x = if contains eq items x then items else items ++ x ∷ []

  -- the items, with x in place of the one that is the same, or at the back if none is
  abbrev pub set_or_push : List T → T → List T
  set_or_push items x =
      if contains eq items x then map (λ y. if eq x y then x else y) items else items ++ x ∷ []
