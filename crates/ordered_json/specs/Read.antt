-- The value that a text has, by the grammar of `json`, with each name of an object once.
use Rattle.std.specs.Prelude.{ℕ, cond, List, Option, option_and_then, option_map}
use Rattle.std.specs.Str.{bytes_eq}
use Rattle.json.specs.Token.{Token}
use Rattle.json.specs.Lex.{tokens}
use Rattle.json.specs.Json.{Json, null, boolean, number, string, array, object}
use Rattle.json.specs.Json.{Items, no_items, item, Members, no_members, member}
use Rattle.json.specs.Json.{parse_map, value, if_last}
use Rattle.ordered_json.specs.declared.read.TheConstants.{MAX_DEPTH}

-- the members, with j at a name: in its place if it is there, and last if it is new
abbrev pub put : List ℕ → Json → Members → Members
put name j no_members = member name j no_members
put name j (member other k ms) =
    cond (bytes_eq name other) (member other j ms) (member other k (put name j ms))

-- The members go in one after another: a name keeps its first place and has its last value.
abbrev mutual
  pub resolved : Json → Json
  resolved null = null
  resolved (boolean b) = boolean b
  resolved (number s) = number s
  resolved (string s) = string s
  resolved (array js) = array (each_resolved js)
  resolved (object ms) = object (put_each ms no_members)

  pub each_resolved : Items → Items
  each_resolved no_items = no_items
  each_resolved (item j js) = item (resolved j) (each_resolved js)

  pub put_each : Members → Members → Members
  put_each no_members before = before
  put_each (member name j ms) before = put_each ms (put name (resolved j) before)

-- the value of a text that nests no deeper than the limit, and has nothing behind it
abbrev pub read : List ℕ → Option Json
read text =
    option_map resolved (option_and_then (λ p. if_last p.0 p.1) (value MAX_DEPTH (tokens text)))

-- ---- of what a part of a text has, and the tokens behind it; for private clauses

abbrev pub resolved_value : Option (Json × List Token) → Option (Json × List Token)
resolved_value = parse_map resolved

abbrev pub resolved_items : Option (Items × List Token) → Option (Items × List Token)
resolved_items = parse_map each_resolved

abbrev pub resolved_members : Members → Option (Members × List Token)
    → Option (Members × List Token)
resolved_members before = parse_map (λ ms. put_each ms before)
