-- What the edits by a pointer leave of a document, or why they refuse.
use Rattle.std.specs.Prelude.{ℕ, zero, suc, ◌+◌, nat_le, Bool, true, false, cond, List, [], ◌∷◌, length, Option, Some, None, is_some}
use Rattle.std.specs.Prelude.{option_and_then, option_map, ok_or, unwrap_or, Result, Ok, Err}
use Rattle.std.specs.Str.{bytes_eq}
use Rattle.linked_hash_map.specs.Pairs.{last, without_last}
use Rattle.json.specs.Json.{Json, array, object, Items, no_items, item, Members, no_members, member}
use Rattle.json.specs.Tree.{depth}
use Rattle.ordered_json.specs.Pointers.{names, index, by_kind, find_member, get_at, change_at}
use Rattle.ordered_json.specs.Read.{put}
use Rattle.ordered_json.specs.declared.read.TheConstants.{MAX_DEPTH}
use Rattle.ordered_json.specs.declared.edit.EditError.{EditError}
use Rattle.ordered_json.specs.declared.edit.EditError.TheVariants.{NotPointer, Absent, OutOfRange, Taken, TooDeep}

-- a document after an edit, or why it is refused
abbrev pub Edited : Type 0
Edited = Result Json EditError

-- ---- where an edit takes place

-- f of the value that names lead to, if it is there
abbrev pub edit_found : (Json → Edited) → Option Json → Edited
edit_found f None = Err Absent
edit_found f (Some j) = f j

-- the document, with the value after an edit at the end of names
abbrev pub put_back : List (List ℕ) → Json → Edited → Edited
put_back path j (Ok after) = Ok (change_at (λ _. after) path j)
put_back path j (Err error) = Err error

-- the document, with the value edited that names lead to
abbrev pub edit_at : (Json → Edited) → List (List ℕ) → Json → Edited
edit_at f path j = put_back path j (edit_found f (get_at path j))

-- the document, with the value edited that all names but the last lead to, by the last one
abbrev pub edit_last : (List ℕ → Json → Edited) → List (List ℕ) → Option (List ℕ) → Json → Edited
edit_last f path None j = Err Absent
edit_last f path (Some name) j = edit_at (f name) path j

abbrev pub edit_parent : (List ℕ → Json → Edited) → List (List ℕ) → Json → Edited
edit_parent f path j = edit_last f (without_last path) (last path) j

-- an edit by the names of a pointer
abbrev pub by_names : (List (List ℕ) → Json → Edited) → Option (List (List ℕ)) → Json → Edited
by_names f None j = Err NotPointer
by_names f (Some path) j = f path j

-- ---- set

abbrev pub push_item : Json → Items → Items
push_item u no_items = item u no_items
push_item u (item j js) = item j (push_item u js)

-- the items, with u at an index: in place of the one there, or behind the last
abbrev pub put_item : Json → ℕ → Items → Option Items
put_item u zero no_items = Some (item u no_items)
put_item u (suc n) no_items = None
put_item u zero (item j js) = Some (item u js)
put_item u (suc n) (item j js) = option_map (item j) (put_item u n js)

-- the same by a name; `-` is behind the last
abbrev pub put_named : Json → List ℕ → Items → Option Items
put_named u name js =
    cond (bytes_eq name (45 ∷ [])) (Some (push_item u js))
    (option_and_then (λ n. put_item u n js) (index name))

-- the value, with u as the child of a name
abbrev pub put_child : Json → List ℕ → Json → Edited
put_child u name j =
    by_kind (λ js. ok_or (option_map array (put_named u name js)) OutOfRange)
    (λ ms. Ok (object (put name u ms))) (Err Absent) j

-- the document, with u at the end of names
abbrev pub put_at : Json → List (List ℕ) → Json → Edited
put_at u [] j = Ok u
put_at u (name ∷ path) j = edit_parent (put_child u) (name ∷ path) j

-- the same, unless u would make it too deep
abbrev pub set_by : Json → List (List ℕ) → Json → Edited
set_by u path j = cond (nat_le (length path + depth u) MAX_DEPTH) (put_at u path j) (Err TooDeep)

-- the document, with u at a pointer
abbrev pub set_at : List ℕ → Json → Json → Edited
set_at text u j = by_names (set_by u) (names text) j

-- ---- remove

abbrev pub without_item : ℕ → Items → Option Items
without_item n no_items = None
without_item zero (item j js) = Some js
without_item (suc n) (item j js) = option_map (item j) (without_item n js)

abbrev pub without_member : List ℕ → Members → Option Members
without_member name no_members = None
without_member name (member other j ms) =
    cond (bytes_eq name other) (Some ms) (option_map (member other j) (without_member name ms))

-- the value without the child of a name
abbrev pub without_child : List ℕ → Json → Edited
without_child name j =
    by_kind
    (λ js. ok_or (option_map array (option_and_then (λ n. without_item n js) (index name))) OutOfRange)
    (λ ms. ok_or (option_map object (without_member name ms)) Absent) (Err Absent) j

-- the document without the value at a pointer
abbrev pub remove_at : List ℕ → Json → Edited
remove_at text j = by_names (edit_parent without_child) (names text) j

-- ---- rename

-- the members, with a name changed in its place
abbrev pub rename_member : List ℕ → List ℕ → Members → Members
rename_member to name no_members = no_members
rename_member to name (member other j ms) =
    member (cond (bytes_eq name other) to other) j (rename_member to name ms)

-- the same of a value; nothing if the names are one
abbrev pub rename_child : List ℕ → List ℕ → Json → Edited
rename_child to name j =
    by_kind (λ js. Err Absent)
    (λ ms. cond (is_some (find_member name ms))
    (cond (bytes_eq name to) (Ok (object ms))
    (cond (is_some (find_member to ms)) (Err Taken) (Ok (object (rename_member to name ms)))))
    (Err Absent)) (Err Absent) j

-- the document, with another name for the member at a pointer
abbrev pub rename_at : List ℕ → List ℕ → Json → Edited
rename_at text to j = by_names (edit_parent (rename_child to)) (names text) j

-- ---- move

-- the members, with a name and its value right before other, or behind it
abbrev pub put_beside : Bool → List ℕ → Json → List ℕ → Members → Members
put_beside behind name j other no_members = no_members
put_beside behind name j other (member k i ms) =
    cond (bytes_eq other k)
    (cond behind (member k i (member name j ms)) (member name j (member k i ms)))
    (member k i (put_beside behind name j other ms))

-- the same of the value that a name has, if the other is there; nothing if the names are one
abbrev pub moved : Bool → List ℕ → List ℕ → Members → Option Json → Bool → Edited
moved behind other name ms None there = Err Absent
moved behind other name ms (Some j) false = Err Absent
moved behind other name ms (Some j) true =
    Ok (object (cond (bytes_eq name other) ms
    (put_beside behind name j other (unwrap_or (without_member name ms) ms))))

abbrev pub move_child : Bool → List ℕ → List ℕ → Json → Edited
move_child behind other name j =
    by_kind (λ js. Err Absent)
    (λ ms. moved behind other name ms (find_member name ms) (is_some (find_member other ms)))
    (Err Absent) j

-- the document, with the member at a pointer before another of its object, or behind it
abbrev pub move_at : Bool → List ℕ → List ℕ → Json → Edited
move_at behind text other j = by_names (edit_parent (move_child behind other)) (names text) j
