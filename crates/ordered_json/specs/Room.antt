-- The room for a merge patch, for private clauses.
use Rattle.std.specs.Prelude.{ℕ, ◌+◌, ◌≤◌, cond, List, length, Option, Some, None, is_some, IfSome, String, string_bytes, ⊤}
use Rattle.std.specs.Str.{bytes_eq}
use Rattle.std.specs.declared.alloc.Global.{Global}
use Rattle.std.specs.declared.hash.RandomState.{RandomState}
use Rattle.linked_hash_map.specs.LinkedMap.{LinkedMap}
use Rattle.linked_hash_map.specs.Pairs.{value_at}
use Rattle.json.specs.Json.{Json, null, boolean, number, string, array, object, Members, no_members, member}
use Rattle.json.specs.Find.{is_null}
use Rattle.ordered_json.specs.Merge.{merge_each}
use Rattle.ordered_json.specs.Pointers.{find_member}
use Rattle.ordered_json.specs.View.{members_view}
use Rattle.ordered_json.specs.declared.value.Value.{Value, out-Value}
use Rattle.ordered_json.specs.declared.value.Value.TheOpen.{Value-F}

abbrev pub Map : Type 0
Map = LinkedMap (String Global) Value RandomState

-- the value of a name
abbrev pub at_name : List ℕ → List (String Global × Value) → Option Value
at_name name pairs = value_at (λ text key. bytes_eq text (string_bytes key)) pairs name

-- the map of an object, by one level of a value
abbrev pub map_step : Value-F Value → Option Map
map_step Value-F.Null = None
map_step (Value-F.Bool b) = None
map_step (Value-F.Number n) = None
map_step (Value-F.String s) = None
map_step (Value-F.Array v) = None
map_step (Value-F.Object m) = Some m.value

abbrev pub map_in : Value → Option Map
map_in v = map_step (out-Value v)

-- 1 if a patch inserts a member of this name and value, else 0
abbrev pub new_one : List ℕ → Json → Members → ℕ
new_one name p ms = cond (is_null p) 0 (cond (is_some (find_member name ms)) 0 1)

-- how many members a patch inserts, whose names differ
abbrev pub new_count : Members → Members → ℕ
new_count no_members ms = 0
new_count (member name p ps) ms = new_one name p ms + new_count ps ms

abbrev mutual
  -- a patch of a value inserts no more members in any object than it has room for
  pub Fits : Json → Value → Type 0
  Fits null v = ⊤
  Fits (boolean b) v = ⊤
  Fits (number s) v = ⊤
  Fits (string s) v = ⊤
  Fits (array js) v = ⊤
  Fits (object ps) v = IfSome (map_in v) (λ m.
      (length m.pairs + new_count ps (members_view m.pairs) ≤ m.capacity) × FitsEach ps m.pairs)

  pub FitsEach : Members → List (String Global × Value) → Type 0
  FitsEach no_members pairs = ⊤
  FitsEach (member name p ps) pairs =
      IfSome (at_name name pairs) (λ v. Fits p v) × FitsEach ps pairs

-- the same of a map
abbrev pub FitsIn : Members → Map → Type 0
FitsIn ps m =
    (length m.pairs + new_count ps (members_view m.pairs) ≤ m.capacity) × FitsEach ps m.pairs

-- of the value of a name, if it is there
abbrev pub FitsAt : Json → Option Value → Type 0
FitsAt p o = IfSome o (λ v. Fits p v)

-- the members after one of a patch
abbrev pub merge_member : List ℕ → Json → Members → Members
merge_member name p ms = merge_each (member name p no_members) ms
