-- What documents hold, and what calls leave of it. A path has names, from the outermost on.
use Rattle.std.specs.Prelude.{ℕ, ◌+◌, max, Bool, true, false, cond, not, List, [], ◌∷◌, Option}
use Rattle.std.specs.Prelude.{Some, None, is_some, option_and_then, option_map, unwrap_or}
use Rattle.std.specs.Str.{bytes_eq}

mutual
  pub data Tree : Type 0 where
    null : Tree
    number : ℕ → Tree
    text : List ℕ → Tree
    list : Members → Tree
    object : Members → Tree

  -- the names and values of an object, front to back, or the values of a list, with empty names
  pub data Members : Type 0 where
    no_members : Members
    member : List ℕ → Tree → Members → Members

-- the value of a name, or none
abbrev pub get_member : List ℕ → Members → Option Tree
get_member name no_members = None
get_member name (member other t ms) = cond (bytes_eq name other) (Some t) (get_member name ms)

-- the members, with u as the value of a name, in its place if it is there, and last if it is new
abbrev pub put_member : Tree → List ℕ → Members → Members
put_member u name no_members = member name u no_members
put_member u name (member other t ms) = cond (bytes_eq name other) (member other u ms) (member other t (put_member u name ms))

-- the members except that of a name
abbrev pub without_member : List ℕ → Members → Members
without_member name no_members = no_members
without_member name (member other t ms) = cond (bytes_eq name other) (without_member name ms) (member other t (without_member name ms))

-- the members, with a name changed in its place
abbrev pub rename_member : List ℕ → List ℕ → Members → Members
rename_member to name no_members = no_members
rename_member to name (member other t ms) = member (cond (bytes_eq name other) to other) t (rename_member to name ms)

abbrev pub is_object : Tree → Bool
is_object (object ms) = true
is_object t = false

abbrev pub on_object : (Members → Members) → Tree → Tree
on_object f (object ms) = object (f ms)
on_object f t = t

abbrev pub get : List ℕ → Tree → Option Tree
get name (object ms) = get_member name ms
get name t = None

-- the value at a path, or none
abbrev pub get_at : List (List ℕ) → Tree → Option Tree
get_at [] t = Some t
get_at (name ∷ path) t = option_and_then (get_at path) (get name t)

-- the same, but the document itself is no member
abbrev pub member_at : List (List ℕ) → Tree → Option Tree
member_at [] t = None
member_at (name ∷ path) t = get_at (name ∷ path) t

-- whether the object is there that a path leads into
abbrev pub has_place : List (List ℕ) → Tree → Bool
has_place [] t = true
has_place (name ∷ []) t = is_object t
has_place (name ∷ path) t = unwrap_or (option_map (has_place path) (get name t)) false

-- whether the member at a path can have another name: none of its object has it, or it is its own
abbrev pub is_free : List (List ℕ) → List ℕ → Tree → Bool
is_free [] to t = true
is_free (name ∷ []) to t = cond (bytes_eq name to) true (not (is_some (get to t)))
is_free (name ∷ path) to t = unwrap_or (option_map (is_free path to) (get name t)) true

-- the tree, with the members changed by the last name of a path, of the object that it leads into
abbrev pub edit_at : (List ℕ → Members → Members) → List (List ℕ) → Tree → Tree
edit_at f [] t = t
edit_at f (name ∷ []) t = on_object (f name) t
edit_at f (name ∷ path) t = unwrap_or (option_map (λ u. on_object (put_member (edit_at f path u) name) t) (get name t)) t

-- the tree, with u at a path
abbrev pub set_at : List (List ℕ) → Tree → Tree → Tree
set_at [] u t = u
set_at (name ∷ path) u t = edit_at (put_member u) (name ∷ path) t

-- how many values are neither lists nor objects, and how deep these nest
abbrev mutual
  pub size : Tree → ℕ × ℕ
  size (list ts) = size_in ts
  size (object ms) = size_in ms
  size t = (1, 0)

  pub size_in : Members → ℕ × ℕ
  size_in no_members = (0, 1)
  size_in (member name t ms) = ((size t).0 + (size_in ms).0, max ((size t).1 + 1) (size_in ms).1)
