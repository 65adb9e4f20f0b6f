-- What a merge patch leaves of a document (RFC 7396).
use Rattle.std.specs.Prelude.{ℕ, cond, List, unwrap_or}
use Rattle.json.specs.Json.{Json, null, boolean, number, string, array, object, Members, no_members, member}
use Rattle.json.specs.Find.{is_null}
use Rattle.ordered_json.specs.Edits.{without_member}
use Rattle.ordered_json.specs.Pointers.{by_kind, find_member}
use Rattle.ordered_json.specs.Read.{put}

-- the members of an object; none, if the value is another
abbrev pub members_in : Json → Members
members_in j = by_kind (λ js. no_members) (λ ms. ms) no_members j

-- the members without that of a name
abbrev pub drop_member : List ℕ → Members → Members
drop_member name ms = unwrap_or (without_member name ms) ms

abbrev mutual
  -- a value after a patch: a patch that is no object takes its place
  pub merged : Json → Json → Json
  merged null j = null
  merged (boolean b) j = boolean b
  merged (number s) j = number s
  merged (string s) j = string s
  merged (array js) j = array js
  merged (object ps) j = object (merge_each ps (members_in j))

  -- the members after those of a patch, one after another: `null` removes the one of its name, and
  -- any other value is merged into it, at a new name into `null`
  pub merge_each : Members → Members → Members
  merge_each no_members ms = ms
  merge_each (member name p ps) ms =
      merge_each ps (cond (is_null p) (drop_member name ms)
      (put name (merged p (unwrap_or (find_member name ms) null)) ms))
