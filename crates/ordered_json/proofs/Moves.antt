-- A member that is moved beside another.
use Rattle.std.proofs.Common.{◌≡◌, ℕ, suc, ◌&&◌, take, drop, List, [], ◌∷◌, ◌++◌, Option, Some, None, is_some, option_map, unwrap_or, cond}
use Rattle.std.proofs.Common.{Bool, true, false, refl, sym, ap, ap₂, ◌∙◌, one-add, Ok, Err}
use Rattle.std.proofs.Math.Numerals.{add-one}
use Rattle.std.specs.Cmp.Lexicographic.{bytes_decides}
use Rattle.std.specs.List.{IsDistinct}
use Rattle.std.specs.Option.{option_to_list}
use Rattle.std.specs.Map.{keys_of}
use Rattle.std.specs.Str.{bytes_eq}
use Rattle.std.specs.String.{string_bytes, string_eq}
use Rattle.json.specs.Json.{Json, object, Members, member}
use Rattle.linked_hash_map.specs.Pairs.{find, value_at, without, count_before, to_before, to_after}
use Rattle.linked_hash_map.proofs.Callers.Texts.{is_text, is_text-find}
use Rattle.ordered_json.specs.Edits.{put_beside, move_child, moved, without_member}
use Rattle.ordered_json.specs.Pointers.{find_member}
use Rattle.ordered_json.specs.View.{view, members_view}
use Rattle.ordered_json.proofs.Children.{find_member-view}
use Rattle.ordered_json.specs.declared.edit.EditError.TheVariants.{Absent}
use Rattle.ordered_json.proofs.Renames.{is_some-view}
use Rattle.ordered_json.proofs.Puts.{without_member-view}
use Rattle.ordered_json.proofs.Views.{Entry}

module _ (name other : List ℕ) (e : Entry) (apart : bytes_eq name other ≡ false) where
  -- the pairs without that of the name, and e behind the first n
  abbrev placed : ℕ → List Entry → List Entry
  placed n pairs = without is_text (take n pairs) name ++ (e ∷ without is_text (drop n pairs) name)

  -- the key of other is not that of the name
  not_name : (p : Entry) → is_text other p.0 ≡ true → is_text name p.0 ≡ false
  not_name p same = by_test (is_text name p.0) refl
    where
      by_test : (b : Bool) → is_text name p.0 ≡ b → b ≡ false
      by_test true alike =
          sym (ap (bytes_eq name) ((bytes_decides other (string_bytes p.0)).0 same) ∙ alike) ∙ apart
      by_test false alike = refl

  abbrev Placed : Bool → List Entry → Type 0
  Placed behind pairs =
      members_view (placed (cond behind (suc (count_before is_text pairs other)) (count_before is_text pairs other)) pairs)
      ≡ put_beside behind (string_bytes e.0) (view e.1) other (members_view (without is_text pairs name))

  placed-at : (behind : Bool) (pairs : List Entry) → is_some (find is_text pairs other) ≡ true → Placed behind pairs
  placed-at behind [] there = absurd (cc)
  placed-at behind (p ∷ ps) there = by_test behind (placed-at behind ps) (is_text other p.0) refl there
    where
      by_name : (behind b : Bool) → is_text name p.0 ≡ b → is_text other p.0 ≡ false → Placed behind ps → Placed behind (p ∷ ps)
      by_name true true same differ rest = rw (differ, one-add, same) rest
      by_name false true same differ rest = rw (differ, one-add, same) rest
      by_name true false same differ rest = rw (differ, one-add, same, differ) (ap (member (string_bytes p.0) (view p.1)) rest)
      by_name false false same differ rest = rw (differ, one-add, same, differ) (ap (member (string_bytes p.0) (view p.1)) rest)

      by_test : (behind : Bool) → (is_some (find is_text ps other) ≡ true → Placed behind ps) → (b : Bool) → is_text other p.0 ≡ b
          → is_some (cond b (Some p) (find is_text ps other)) ≡ true → Placed behind (p ∷ ps)
      by_test true rest true same is = let differ = not_name p same in rw (same, differ, same) refl
      by_test false rest true same is = let differ = not_name p same in rw (same, differ, same) refl
      by_test behind rest false same is = by_name behind (is_text name p.0) refl same (rest is)

  placed-beside : (behind : Bool) (pairs : List Entry) → find is_text pairs name ≡ Some e → is_some (find is_text pairs other) ≡ true
      → members_view (cond behind (to_after is_text is_text pairs name other) (to_before is_text is_text pairs name other))
      ≡ put_beside behind (string_bytes e.0) (view e.1) other (members_view (without is_text pairs name))
  placed-beside true pairs found there =
      let n = count_before is_text pairs other in
      ap₂ (λ k o. members_view (without is_text (take k pairs) name ++ (option_to_list o ++ without is_text (drop k pairs) name)))
      (add-one n) found ∙ placed-at true pairs there
  placed-beside false pairs found there =
      let n = count_before is_text pairs other in
      ap (λ o. members_view (without is_text (take n pairs) name ++ (option_to_list o ++ without is_text (drop n pairs) name))) found
      ∙ placed-at false pairs there

module _ (behind : Bool) (pairs : List Entry) (name other : List ℕ) where
  abbrev now : Members
  now = members_view pairs

  by_views : (o : Option Json) (b : Bool) → find_member name now ≡ o → is_some (find_member other now) ≡ b
      → move_child behind other name (object now) ≡ moved behind other name now o b
  by_views o b found there = ap₂ (moved behind other name now) found there

  pub move_child-moved : (after : List Entry) → IsDistinct string_eq (keys_of pairs) → bytes_eq name other ≡ false
      → (is_some (find is_text pairs name) && is_some (find is_text pairs other)) ≡ true
      → after ≡ cond behind (to_after is_text is_text pairs name other) (to_before is_text is_text pairs name other)
      → move_child behind other name (object now) ≡ Ok (object (members_view after))
  move_child-moved after distinct apart both after_is = by_pair (find is_text pairs name) refl both
    where
      by_pair : (o : Option Entry) → find is_text pairs name ≡ o → (is_some o && is_some (find is_text pairs other)) ≡ true
          → move_child behind other name (object now) ≡ Ok (object (members_view after))
      by_pair None found is = absurd (cc)
      by_pair (Some e) found is =
          let value_is : value_at is_text pairs name ≡ Some e.1 = ap (option_map (λ (p : Entry). p.1)) found in
          let name_is : name ≡ string_bytes e.0 = (bytes_decides name (string_bytes e.0)).0 (is_text-find pairs name e found) in
          by_views (Some (view e.1)) true (find_member-view pairs name ∙ ap (option_map view) value_is) (is_some-view pairs other ∙ is)
          ∙ ap (λ b. Ok (object (cond b now (put_beside behind name (view e.1) other (unwrap_or (without_member name now) now))))) apart
          ∙ ap (λ o. Ok (object (put_beside behind name (view e.1) other (unwrap_or o now))))
          (without_member-view pairs name e.1 distinct value_is)
          ∙ ap (λ n. Ok (object (put_beside behind n (view e.1) other (members_view (without is_text pairs name))))) name_is
          ∙ ap (λ ms. Ok (object ms)) (sym (placed-beside name other e apart behind pairs found is))
          ∙ ap (λ ps. Ok (object (members_view ps))) (sym after_is)

  pub move_child-absent : (is_some (find is_text pairs name) && is_some (find is_text pairs other)) ≡ false
      → move_child behind other name (object now) ≡ Err Absent
  move_child-absent none =
      by_both (find_member name now) (is_some (find_member other now)) refl refl
      (ap₂ (λ a b. a && b) (is_some-view pairs name) (is_some-view pairs other) ∙ none)
    where
      by_both : (o : Option Json) (b : Bool) → find_member name now ≡ o → is_some (find_member other now) ≡ b
          → (is_some (find_member name now) && is_some (find_member other now)) ≡ false
          → move_child behind other name (object now) ≡ Err Absent
      by_both None b found there is = by_views None b found there
      by_both (Some j) false found there is = by_views (Some j) false found there
      by_both (Some j) true found there is = absurd (cc (ap is_some found, there, is))

  -- beside itself
  pub move_child-own : bytes_eq name other ≡ true → is_some (find is_text pairs name) ≡ true
      → move_child behind other name (object now) ≡ Ok (object now)
  move_child-own same there = by_found (find_member name now) refl (is_some-view pairs name ∙ there)
    where
      by_found : (o : Option Json) → find_member name now ≡ o → is_some (find_member name now) ≡ true
          → move_child behind other name (object now) ≡ Ok (object now)
      by_found None found is = absurd (cc (ap is_some found, is))
      by_found (Some j) found is =
          by_views (Some j) true found (ap (λ n. is_some (find_member n now)) (sym ((bytes_decides name other).0 same)) ∙ is)
          ∙ ap (λ b. Ok (object (cond b now (put_beside behind name j other (unwrap_or (without_member name now) now))))) same
