-- A document nests no deeper after a merge patch than the deeper of the two.
use Rattle.std.proofs.Common.{◌≡◌, ℕ, suc, ◌≤◌, max, List, [], ◌∷◌, Option, Some, None, Bool, true, false, cond, unwrap_or, option_map}
use Rattle.std.proofs.Common.{arith}
use Rattle.std.specs.Str.{bytes_eq}
use Rattle.json.specs.Json.{Json, null, boolean, number, string, array, object, Items, no_items, item, Members, no_members, member}
use Rattle.json.specs.Tree.{depth, items_depth, members_depth}
use Rattle.json.specs.Find.{is_null}
use Rattle.ordered_json.specs.Edits.{without_member}
use Rattle.ordered_json.specs.Merge.{members_in, drop_member, merged, merge_each}
use Rattle.ordered_json.specs.Pointers.{find_member}
use Rattle.ordered_json.specs.Read.{put}
use Rattle.ordered_json.proofs.Depths.{members_depth-put}

depth-members_in : (j : Json) → suc (members_depth (members_in j)) ≤ max 1 (depth j)
depth-members_in null = omega arith
depth-members_in (boolean b) = omega arith
depth-members_in (number s) = omega arith
depth-members_in (string s) = omega arith
depth-members_in (array js) = omega arith
depth-members_in (object ms) = omega arith

depth-find_member : (name : List ℕ) (ms : Members) → depth (unwrap_or (find_member name ms) null) ≤ members_depth ms
depth-find_member name no_members = omega arith
depth-find_member name (member other j ms) = by_test (bytes_eq name other) (depth-find_member name ms)
  where
    by_test : (b : Bool) → depth (unwrap_or (find_member name ms) null) ≤ members_depth ms
        → depth (unwrap_or (cond b (Some j) (find_member name ms)) null) ≤ max (depth j) (members_depth ms)
    by_test true rest = omega arith
    by_test false rest = omega (arith, rest)

members_depth-drop_member : (name : List ℕ) (ms : Members) → members_depth (drop_member name ms) ≤ members_depth ms
members_depth-drop_member name no_members = omega arith
members_depth-drop_member name (member other j ms) =
    by_test (bytes_eq name other) (without_member name ms) (members_depth-drop_member name ms)
  where
    by_test : (b : Bool) (o : Option Members) → members_depth (unwrap_or o ms) ≤ members_depth ms
        → members_depth (unwrap_or (cond b (Some ms) (option_map (member other j) o)) (member other j ms))
        ≤ max (depth j) (members_depth ms)
    by_test true o rest = omega arith
    by_test false None rest = omega arith
    by_test false (Some found) rest = omega (arith, rest)

either : (b : Bool) (ms ns : Members) (n : ℕ) → members_depth ms ≤ n → members_depth ns ≤ n → members_depth (cond b ms ns) ≤ n
either true ms ns n first second = first
either false ms ns n first second = second

mutual
  pub depth-merged : (p j : Json) → depth (merged p j) ≤ max (depth p) (depth j)
  depth-merged null j = omega arith
  depth-merged (boolean b) j = omega arith
  depth-merged (number s) j = omega arith
  depth-merged (string s) j = omega arith
  depth-merged (array js) j = omega arith
  depth-merged (object ps) j = omega (arith, depth-members_in j, members_depth-merge_each ps (members_in j))

  members_depth-merge_each : (ps ms : Members) → members_depth (merge_each ps ms) ≤ max (members_depth ps) (members_depth ms)
  members_depth-merge_each no_members ms = omega arith
  members_depth-merge_each (member name p ps) ms =
      let found = unwrap_or (find_member name ms) null in
      let one = either (is_null p) (drop_member name ms) (put name (merged p found) ms) (max (depth p) (members_depth ms))
      (omega (arith, members_depth-drop_member name ms))
      (omega (arith, members_depth-put name (merged p found) ms, depth-merged p found, depth-find_member name ms)) in
      omega (
        arith,
        one,
        members_depth-merge_each ps (cond (is_null p) (drop_member name ms) (put name (merged p found) ms)),
      )
