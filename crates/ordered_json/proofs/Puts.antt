-- The items and members of a value that one is put into, or taken from.
use Rattle.std.proofs.Common.{◌≡◌, ℕ, zero, suc, ◌-◌, ◌^◌, ◌<◌, ◌≤◌, length, List, [], ◌∷◌, ◌++◌, Option, Some, None}
use Rattle.std.proofs.Common.{option_map, option_and_then}
use Rattle.std.proofs.Common.{cond, Bool, true, false, refl, sym, ap, ◌∙◌, arith, nat_le}
use Rattle.std.proofs.lemmas.Bool.{leb-true, leb-false}
use Rattle.std.proofs.lemmas.Map.Keys.{IsDistinct-tail}
use Rattle.std.specs.List.{IsDistinct, slice_set, remove}
use Rattle.std.specs.Map.{keys_of}
use Rattle.std.specs.Str.{bytes_eq}
use Rattle.std.specs.String.{string_bytes, string_eq}
use Rattle.json.specs.Json.{Json, item, member}
use Rattle.linked_hash_map.specs.Pairs.{value_at, without, find}
use Rattle.linked_hash_map.proofs.Callers.Keys.{without-absent}
use Rattle.linked_hash_map.proofs.Callers.Texts.{is_text}
use Rattle.ordered_json.specs.Edits.{push_item, put_item, without_item, without_member}
use Rattle.ordered_json.specs.View.{view, items_view, members_view}
use Rattle.ordered_json.specs.declared.value.Value.{Value}
use Rattle.ordered_json.proofs.Children.{capped, find-behind}
use Rattle.ordered_json.proofs.Views.{Entry}

pub push_item-view : (vs : List Value) (v : Value) → items_view (vs ++ v ∷ []) ≡ push_item (view v) (items_view vs)
push_item-view [] v = refl
push_item-view (w ∷ vs) v = ap (item (view w)) (push_item-view vs v)

pub put_item-end : (vs : List Value) (v : Value) → put_item (view v) (length vs) (items_view vs) ≡ Some (items_view (vs ++ v ∷ []))
put_item-end [] v = refl
put_item-end (w ∷ vs) v = ap (option_map (item (view w))) (put_item-end vs v)

pub put_item-inside : (vs : List Value) (n : ℕ) (v : Value) → n < length vs
    → put_item (view v) n (items_view vs) ≡ Some (items_view (slice_set vs n v))
put_item-inside [] n v less = absurd (omega (arith, less))
put_item-inside (w ∷ vs) zero v less = refl
put_item-inside (w ∷ vs) (suc n) v less = ap (option_map (item (view w))) (put_item-inside vs n v (omega (arith, less)))

pub put_item-past : (vs : List Value) (n : ℕ) (u : Json) → length vs < n → put_item u n (items_view vs) ≡ None
put_item-past [] zero u less = absurd (omega (arith, less))
put_item-past [] (suc n) u less = refl
put_item-past (w ∷ vs) zero u less = absurd (omega (arith, less))
put_item-past (w ∷ vs) (suc n) u less = ap (option_map (item (view w))) (put_item-past vs n u (omega (arith, less)))

pub without_item-inside : (vs : List Value) (n : ℕ) → n < length vs → without_item n (items_view vs) ≡ Some (items_view (remove vs n))
without_item-inside [] n less = absurd (omega (arith, less))
without_item-inside (w ∷ vs) zero less = refl
without_item-inside (w ∷ vs) (suc n) less = ap (option_map (item (view w))) (without_item-inside vs n (omega (arith, less)))

pub without_item-past : (vs : List Value) (n : ℕ) → length vs ≤ n → without_item n (items_view vs) ≡ None
without_item-past [] n less = refl
without_item-past (w ∷ vs) zero less = absurd (omega (arith, less))
without_item-past (w ∷ vs) (suc n) less = ap (option_map (item (view w))) (without_item-past vs n (omega (arith, less)))

-- by an index and its cap
module _ (vs : List Value) (within : length vs < 2 ^ 64 - 1) where
  by_cap : {A : Type 0} (f : ℕ → A) (none : A) → ((n : ℕ) → length vs < n → f n ≡ none) → (n : ℕ) → f n ≡ f (capped n)
  by_cap f none past n = by_order (nat_le n (2 ^ 64 - 1)) refl
    where
      by_order : (b : Bool) → nat_le n (2 ^ 64 - 1) ≡ b → f n ≡ f (capped n)
      by_order true less = ap f (omega (arith, leb-true n (2 ^ 64 - 1) less))
      by_order false more =
          let over = leb-false n (2 ^ 64 - 1) more in
          past n (omega (arith, over, within)) ∙ sym (past (capped n) (omega (arith, over, within)))

  module _ (index : Option ℕ) (at : ℕ) (is : Some at ≡ option_map capped index) where
    by_at : {A : Type 0} (f : ℕ → Option A) → ((n : ℕ) → length vs < n → f n ≡ None) → option_and_then f index ≡ f at
    by_at {A} f past = by_index index is
      where
        by_index : (o : Option ℕ) → Some at ≡ option_map capped o → option_and_then f o ≡ f at
        by_index None h = absurd (cc)
        by_index (Some n) h = let at_is : at ≡ capped n = cc in by_cap f None past n ∙ ap f (sym at_is)

    pub put_item-at : (u : Json) → option_and_then (λ n. put_item u n (items_view vs)) index ≡ put_item u at (items_view vs)
    put_item-at u = by_at (λ n. put_item u n (items_view vs)) (λ n less. put_item-past vs n u less)

    pub without_item-at : option_and_then (λ n. without_item n (items_view vs)) index ≡ without_item at (items_view vs)
    without_item-at = by_at (λ n. without_item n (items_view vs)) (λ n less. without_item-past vs n (omega (arith, less)))

pub without_member-view : (pairs : List Entry) (name : List ℕ) (v : Value) → IsDistinct string_eq (keys_of pairs)
    → value_at is_text pairs name ≡ Some v → without_member name (members_view pairs) ≡ Some (members_view (without is_text pairs name))
without_member-view [] name v distinct there = absurd (cc)
without_member-view (pair ∷ pairs) name v distinct there =
    by_test (bytes_eq name (string_bytes pair.0)) refl there
    (without_member-view pairs name v (IsDistinct-tail string_eq pair.0 (keys_of pairs) distinct))
  where
    by_test : (b : Bool) → bytes_eq name (string_bytes pair.0) ≡ b
        → option_map (λ (p : Entry). p.1) (cond b (Some pair) (find is_text pairs name)) ≡ Some v
        → (value_at is_text pairs name ≡ Some v → without_member name (members_view pairs) ≡ Some (members_view
        (without is_text pairs name)))
        → without_member name (members_view (pair ∷ pairs)) ≡ Some (members_view (without is_text (pair ∷ pairs) name))
    by_test true same here rest =
        rw (same, without-absent is_text pairs name (find-behind pair pairs name distinct same)) refl
    by_test false apart here rest = rw apart (ap (option_map (member (string_bytes pair.0) (view pair.1))) (rest here))

pub without_member-absent : (pairs : List Entry) (name : List ℕ) → value_at is_text pairs name ≡ None
    → without_member name (members_view pairs) ≡ None
without_member-absent [] name none = refl
without_member-absent (pair ∷ pairs) name none =
    by_test (bytes_eq name (string_bytes pair.0)) refl none (without_member-absent pairs name)
  where
    by_test : (b : Bool) → bytes_eq name (string_bytes pair.0) ≡ b
        → option_map (λ (p : Entry). p.1) (cond b (Some pair) (find is_text pairs name)) ≡ None
        → (value_at is_text pairs name ≡ None → without_member name (members_view pairs) ≡ None)
        → without_member name (members_view (pair ∷ pairs)) ≡ None
    by_test true same here rest = absurd (cc)
    by_test false apart here rest = rw apart (ap (option_map (member (string_bytes pair.0) (view pair.1))) (rest here))
