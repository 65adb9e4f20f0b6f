-- The tree that a document stands for.
use Rattle.std.specs.Prelude.{List, [], ◌∷◌, map, String, string_bytes}
use Rattle.std.specs.declared.alloc.Global.{Global}
use Rattle.uses.specs.Trees.{Tree, null, number, text, list, object, Members, no_members, member}
use Rattle.uses.specs.declared.nested.Value.{Value, fold-Value, TheOpen.Value-F}

abbrev pub items_of : List Tree → Members
items_of [] = no_members
items_of (t ∷ ts) = member [] t (items_of ts)

abbrev pub members_of : List (String Global × Tree) → Members
members_of [] = no_members
members_of (m ∷ ms) = member (string_bytes m.0) m.1 (members_of ms)

-- one level, with each value inside already seen as its tree
abbrev pub view_step : Value-F Tree → Tree
view_step Value-F.Null = null
view_step (Value-F.Number n) = number n
view_step (Value-F.Text s) = text (string_bytes s)
view_step (Value-F.List v) = list (items_of v.items)
view_step (Value-F.Object m) = object (members_of m.pairs)

abbrev pub view : Value → Tree
view = fold-Value Tree view_step

abbrev pub members_view : List (String Global × Value) → Members
members_view ms = members_of (map (λ m. (m.0, view m.1)) ms)
