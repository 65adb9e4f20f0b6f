-- The pairs of a map that was sorted by its keys, as members in the order of their names.
use Rattle.std.proofs.Common.{◌≡◌, ℕ, zero, suc, ◌+◌, ◌<◌, List, [], ◌∷◌, ◌++◌}
use Rattle.std.proofs.Common.{length, map, take, drop, Option, Some, None, option_map, Bool, true, false}
use Rattle.std.proofs.Common.{refl, sym, ap, ap₂, subst, ◌∙◌, arith, String}
use Rattle.std.proofs.lemmas.Map.Keys.{IsDistinct-tail, apart_from_distinct}
use Rattle.std.specs.Cmp.Lexicographic.{bytes_decides}
use Rattle.std.specs.List.{IsDistinct}
use Rattle.std.specs.List.Sorted.{IsSorted}
use Rattle.std.specs.Map.{keys_of}
use Rattle.std.specs.Ordering.{is_lt}
use Rattle.std.specs.Prelude.{slice_index_or}
use Rattle.std.specs.String.{string_bytes, string_cmp, string_eq, string_eq_equiv}
use Rattle.std.specs.declared.alloc.Global.{Global}
use Rattle.std.specs.declared.cmp.Ordering.{Ordering}
use Rattle.std.specs.declared.cmp.Ordering.TheVariants.{Less, Equal, Greater}
use Rattle.json.specs.Json.{Members}
use Rattle.linked_hash_map.specs.Pairs.{find}
use Rattle.linked_hash_map.proofs.Callers.Texts.{is_text, find-is_text, is_text-find}
use Rattle.ordered_json.specs.Pointers.{find_member}
use Rattle.ordered_json.specs.Sorts.{in_order}
use Rattle.ordered_json.specs.View.{view, members_view}
use Rattle.ordered_json.proofs.Children.{find_member-view, find-behind}
use Rattle.ordered_json.proofs.Orders.{compare, same-equal, less-greater, Ascends}
use Rattle.ordered_json.proofs.Orders.{Below-less, Ascends-insert_member, find_member-in_order, same-found}
use Rattle.ordered_json.proofs.Views.{Entry}

less-distinct : (a b : String Global) → is_lt (string_cmp b a) ≡ false → string_eq a b ≡ false → string_cmp a b ≡ Less
less-distinct a b rises apart = by_order (compare (string_bytes b) (string_bytes a)) refl rises
  where
    by_order : (o : Ordering) → compare (string_bytes b) (string_bytes a) ≡ o → is_lt o ≡ false → string_cmp a b ≡ Less
    by_order Less order up = absurd (cc (up))
    by_order Equal order up =
        absurd (cc (apart, (bytes_decides (string_bytes a) (string_bytes b)).1 (sym (same-equal (string_bytes b) (string_bytes a) order))))
    by_order Greater order up = less-greater (string_bytes b) (string_bytes a) order

Ascends-sorted : (qs : List Entry) → IsDistinct string_eq (keys_of qs) → IsSorted string_cmp (keys_of qs) → Ascends (members_view qs)
Ascends-sorted [] distinct up = tt
Ascends-sorted (q ∷ []) distinct up = (tt, tt)
Ascends-sorted (q ∷ r ∷ qs) distinct up =
    let less = less-distinct q.0 r.0 (up 0 q.0 (omega arith) (omega arith))
    (apart_from_distinct string_eq (keys_of (q ∷ r ∷ qs)) 0 1 q.0 distinct (omega arith) (omega arith)) in
    let rest = Ascends-sorted (r ∷ qs) (IsDistinct-tail string_eq q.0 (keys_of (r ∷ qs)) distinct) (λ k d low within.
    let next : suc k + 1 ≡ suc (k + 1) = omega arith in
    subst (λ n. is_lt (string_cmp (slice_index_or (keys_of (q ∷ r ∷ qs)) n d) (slice_index_or (keys_of (r ∷ qs)) k d)) ≡ false) next
    (up (suc k) d (omega arith) (omega (arith, within)))) in
    ((less, Below-less (string_bytes q.0) (string_bytes r.0) (members_view qs) less rest.0), rest)

Ascends-in_order : (ps : List Entry) → IsDistinct string_eq (keys_of ps) → Ascends (in_order (members_view ps))
Ascends-in_order [] distinct = tt
Ascends-in_order (p ∷ ps) distinct =
    Ascends-insert_member (string_bytes p.0) (view p.1) (in_order (members_view ps))
    (find_member-in_order (string_bytes p.0) (members_view ps) ∙ find_member-view ps (string_bytes p.0)
    ∙ ap (λ o. option_map view (option_map (λ (e : Entry). e.1) o)) (find-behind p ps (string_bytes p.0) distinct
    ((bytes_decides (string_bytes p.0) (string_bytes p.0)).1 refl)))
    (Ascends-in_order ps (IsDistinct-tail string_eq p.0 (keys_of ps) distinct))

module _ (ps qs : List Entry) (finds : (k : String Global) → find string_eq qs k ≡ find string_eq ps k) where
  find-bytes : (q : List ℕ) (e : Entry) (es : List Entry) → find is_text es q ≡ Some e → find is_text qs q ≡ find is_text ps q
  find-bytes q e es found =
      let key : string_bytes e.0 ≡ q = sym ((bytes_decides q (string_bytes e.0)).0 (is_text-find es q e found)) in
      sym (find-is_text qs q e.0 key) ∙ finds e.0 ∙ find-is_text ps q e.0 key

  find-texts : (q : List ℕ) → find is_text qs q ≡ find is_text ps q
  find-texts q = by_found (find is_text qs q) (find is_text ps q) refl refl
    where
      by_found : (o p : Option Entry) → find is_text qs q ≡ o → find is_text ps q ≡ p → find is_text qs q ≡ find is_text ps q
      by_found (Some e) p found other = find-bytes q e qs found
      by_found None (Some e) found other = find-bytes q e ps other
      by_found None None found other = found ∙ sym other

  pub members_view-sorted : IsDistinct string_eq (keys_of ps) → IsDistinct string_eq (keys_of qs)
      → IsSorted string_cmp (keys_of qs) → members_view qs ≡ in_order (members_view ps)
  members_view-sorted distinct other up =
      same-found (members_view qs) (in_order (members_view ps)) (Ascends-sorted qs other up) (Ascends-in_order ps distinct)
      (λ q. find_member-view qs q ∙ ap (λ o. option_map view (option_map (λ (e : Entry). e.1) o)) (find-texts q)
      ∙ sym (find_member-view ps q) ∙ sym (find_member-in_order q (members_view ps)))
