-- The data that a value stands for: the `Json` of `json`.
use Rattle.std.specs.Prelude.{ℕ, List, [], ◌∷◌, map, String, string_bytes}
use Rattle.std.specs.declared.alloc.Global.{Global}
use Rattle.json.specs.Json.{Json, null, boolean, number, string, array, object}
use Rattle.json.specs.Json.{Items, no_items, item, Members, no_members, member}
use Rattle.ordered_json.specs.declared.number.Number.{Number}
use Rattle.ordered_json.specs.declared.value.Value.{Value, fold-Value}
use Rattle.ordered_json.specs.declared.value.Value.TheOpen.{Value-F}

abbrev pub items_of : List Json → Items
items_of [] = no_items
items_of (j ∷ js) = item j (items_of js)

abbrev pub members_of : List (String Global × Json) → Members
members_of [] = no_members
members_of (m ∷ ms) = member (string_bytes m.0) m.1 (members_of ms)

abbrev pub number_text : Number → List ℕ
number_text n = string_bytes n.text

-- one level, with each value inside already seen as its data
abbrev pub view_step : Value-F Json → Json
view_step Value-F.Null = null
view_step (Value-F.Bool b) = boolean b
view_step (Value-F.Number n) = number (number_text n)
view_step (Value-F.String s) = string (string_bytes s)
view_step (Value-F.Array v) = array (items_of v.items)
view_step (Value-F.Object m) = object (members_of m.value.pairs)

abbrev pub view : Value → Json
view = fold-Value Json view_step

abbrev pub items_view : List Value → Items
items_view vs = items_of (map view vs)

abbrev pub members_view : List (String Global × Value) → Members
members_view ms = members_of (map (λ m. (m.0, view m.1)) ms)
