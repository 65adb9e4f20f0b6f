-- How deep values nest: one that was read no deeper than its text may.
use Rattle.std.proofs.Common.{◌≡◌, ℕ, ◌+◌, ◌-◌, ◌≤◌, max, nat_le, List, [], ◌∷◌, Option, Some, None, Bool, true, false, cond, ◌&&◌}
use Rattle.std.proofs.Common.{refl, ap, subst, arith}
use Rattle.std.proofs.lemmas.Bool.{leb-true, leb-false}
use Rattle.std.specs.Map.{values_of}
use Rattle.std.specs.Str.{bytes_eq}
use Rattle.json.specs.Token.{Token}
use Rattle.json.specs.Lex.{tokens}
use Rattle.json.specs.Json.{Json, null, boolean, number, string, array, object, Items, no_items, item, Members, no_members, member}
use Rattle.json.specs.Tree.{depth, items_depth, members_depth}
use Rattle.json.proofs.Nesting.{value-depth}
use Rattle.ordered_json.specs.Read.{put, resolved, each_resolved, put_each, read}
use Rattle.ordered_json.specs.declared.read.TheConstants.{MAX_DEPTH}
use Rattle.ordered_json.specs.View.{items_view, members_view, view}
use Rattle.ordered_json.proofs.Reading.{pick, whole}
use Rattle.ordered_json.proofs.Views.{Entry}

pub members_depth-put : (name : List ℕ) (j : Json) (ms : Members) → members_depth (put name j ms) ≤ max (depth j) (members_depth ms)
members_depth-put name j no_members = omega arith
members_depth-put name j (member other k ms) = by_test (bytes_eq name other) (members_depth-put name j ms)
  where
    by_test : (b : Bool) → members_depth (put name j ms) ≤ max (depth j) (members_depth ms)
        → members_depth (cond b (member other j ms) (member other k (put name j ms))) ≤ max (depth j) (max (depth k) (members_depth ms))
    by_test true rest = omega arith
    by_test false rest = omega (arith, rest)

mutual
  depth-resolved : (j : Json) → depth (resolved j) ≤ depth j
  depth-resolved null = omega arith
  depth-resolved (boolean b) = omega arith
  depth-resolved (number s) = omega arith
  depth-resolved (string s) = omega arith
  depth-resolved (array js) = omega (arith, items_depth-each_resolved js)
  depth-resolved (object ms) = omega (arith, members_depth-put_each ms no_members)

  items_depth-each_resolved : (js : Items) → items_depth (each_resolved js) ≤ items_depth js
  items_depth-each_resolved no_items = omega arith
  items_depth-each_resolved (item j js) = omega (arith, depth-resolved j, items_depth-each_resolved js)

  members_depth-put_each : (ms before : Members) → members_depth (put_each ms before) ≤ max (members_depth ms) (members_depth before)
  members_depth-put_each no_members before = omega arith
  members_depth-put_each (member name j ms) before = omega (
    arith,
    depth-resolved j,
    members_depth-put name (resolved j) before,
    members_depth-put_each ms (put name (resolved j) before),
  )

depth-whole : (o : Option (Json × List Token)) (j : Json) → ((k : Json) (r : List Token) → o ≡ Some (k, r) → depth k ≤ MAX_DEPTH)
    → whole o ≡ Some j → depth j ≤ MAX_DEPTH
depth-whole None j within e = absurd (cc)
depth-whole (Some (k, [])) j within e =
    subst (λ i. depth i ≤ MAX_DEPTH) (ap (pick j) e) (omega (arith, depth-resolved k, within k [] refl))
depth-whole (Some (k, t ∷ r)) j within e = absurd (cc)

pub depth-read : (text : List ℕ) (j : Json) → read text ≡ Some j → depth j ≤ MAX_DEPTH
depth-read text j e = depth-whole _ j (λ k r. value-depth MAX_DEPTH (tokens text) r k) e

-- whether a value nests within a limit

pub nat_le-max : (a b most : ℕ) → nat_le (max a b) most ≡ (nat_le a most && nat_le b most)
nat_le-max a b most = by_tests (nat_le (max a b) most) (nat_le a most) (nat_le b most) refl refl refl
  where
    by_tests : (x y z : Bool) → nat_le (max a b) most ≡ x → nat_le a most ≡ y → nat_le b most ≡ z → x ≡ (y && z)
    by_tests true true true e f g = refl
    by_tests true true false e f g = absurd (omega (arith, leb-true (max a b) most e, leb-false b most g))
    by_tests true false z e f g = absurd (omega (arith, leb-true (max a b) most e, leb-false a most f))
    by_tests false true true e f g = absurd (omega (arith, leb-false (max a b) most e, leb-true a most f, leb-true b most g))
    by_tests false true false e f g = refl
    by_tests false false z e f g = refl

pub nat_le-minus : (n d most : ℕ) → n ≤ most → nat_le (n + d) most ≡ nat_le d (most - n)
nat_le-minus n d most less = by_tests (nat_le (n + d) most) (nat_le d (most - n)) refl refl
  where
    by_tests : (x y : Bool) → nat_le (n + d) most ≡ x → nat_le d (most - n) ≡ y → x ≡ y
    by_tests true true e f = refl
    by_tests false false e f = refl
    by_tests true false e f = absurd (omega (arith, less, leb-true (n + d) most e, leb-false d (most - n) f))
    by_tests false true e f = absurd (omega (arith, less, leb-false (n + d) most e, leb-true d (most - n) f))

pub members_depth-values : (ms : List Entry) → members_depth (members_view ms) ≡ items_depth (items_view (values_of ms))
members_depth-values [] = refl
members_depth-values (m ∷ ms) = ap (max (depth (view m.1))) (members_depth-values ms)
