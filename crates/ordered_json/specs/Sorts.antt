-- A document with the members of its objects in the order of their names.
use Rattle.std.specs.Prelude.{ℕ, cond, List, Result, Ok}
use Rattle.std.specs.Cmp.Lexicographic.{slice_cmp}
use Rattle.std.specs.Ordering.{is_lt, nat_cmp}
use Rattle.json.specs.Json.{Json, null, boolean, number, string, array, object}
use Rattle.json.specs.Json.{Items, no_items, item, Members, no_members, member}
use Rattle.ordered_json.specs.Edits.{Edited, by_names, edit_at}
use Rattle.ordered_json.specs.Pointers.{names}

-- members in order, with one more before the first whose name is not less
abbrev pub insert_member : List ℕ → Json → Members → Members
insert_member name j no_members = member name j no_members
insert_member name j (member other k ms) =
    cond (is_lt (slice_cmp nat_cmp other name)) (member other k (insert_member name j ms))
    (member name j (member other k ms))

-- the members by their names, the least first
abbrev pub in_order : Members → Members
in_order no_members = no_members
in_order (member name j ms) = insert_member name j (in_order ms)

-- the value, with the members of each object in it in order; items stay where they are
abbrev mutual
  pub sorted : Json → Json
  sorted null = null
  sorted (boolean b) = boolean b
  sorted (number s) = number s
  sorted (string s) = string s
  sorted (array js) = array (sorted_items js)
  sorted (object ms) = object (in_order (sorted_members ms))

  pub sorted_items : Items → Items
  sorted_items no_items = no_items
  sorted_items (item j js) = item (sorted j) (sorted_items js)

  pub sorted_members : Members → Members
  sorted_members no_members = no_members
  sorted_members (member name j ms) = member name (sorted j) (sorted_members ms)

-- the document, with the value at a pointer sorted
abbrev pub sort_at : List ℕ → Json → Edited
sort_at text j = by_names (edit_at (λ k. Ok (sorted k))) (names text) j
