-- The members and items of a value beside what they stand for.
use Rattle.std.proofs.Common.{◌≡◌, ℕ, zero, suc, ◌+◌, ◌*◌, ◌-◌, ◌^◌, ◌<◌, min, length, List, [], ◌∷◌, Option, Some, None}
use Rattle.std.proofs.Common.{option_map, option_and_then}
use Rattle.std.proofs.Common.{cond, Bool, true, false, refl, sym, ap, ◌∙◌, arith, nat_le}
use Rattle.std.proofs.lemmas.Bool.{leb-true, leb-false}
use Rattle.std.proofs.lemmas.Map.Keys.{IsDistinct-tail}
use Rattle.std.proofs.lemmas.Option.{slice_get_past, slice_get_within}
use Rattle.std.specs.Borrow.{Bor, MutBor}
use Rattle.std.specs.Char.{is_ascii_digit}
use Rattle.std.specs.Cmp.Lexicographic.{bytes_decides}
use Rattle.std.specs.List.{IsDistinct, slice_get, slice_set}
use Rattle.std.specs.Map.{keys_of}
use Rattle.std.specs.Option.{option_copied, option_copied_mut}
use Rattle.std.specs.Str.{bytes_eq}
use Rattle.std.specs.String.{string_bytes, string_eq, string_eq_equiv}
use Rattle.std.specs.declared.alloc.Global.{Global}
use Rattle.json.specs.Json.{Json, Items, no_items, item, Members, no_members, member}
use Rattle.json.specs.Find.{get_item}
use Rattle.linked_hash_map.specs.Pairs.{find, value_at, set_value}
use Rattle.linked_hash_map.proofs.Callers.Keys.{set_value-none}
use Rattle.linked_hash_map.proofs.Callers.Texts.{is_text, find-is_text}
use Rattle.linked_hash_map.proofs.Callers.Turns.{find-others}
use Rattle.ordered_json.specs.Pointers.{number_after, find_member, change_member, change_item, change_items}
use Rattle.ordered_json.specs.View.{view, items_view, members_view}
use Rattle.ordered_json.specs.declared.value.Value.{Value}
use Rattle.ordered_json.proofs.Views.{Entry}

-- members, by their names

pub find_member-view : (pairs : List Entry) (name : List ℕ)
    → find_member name (members_view pairs) ≡ option_map view (value_at is_text pairs name)
find_member-view [] name = refl
find_member-view (pair ∷ pairs) name = grind (arith, find_member-view pairs name)

-- a name is no more than once among distinct keys
pub find-behind : (pair : Entry) (pairs : List Entry) (name : List ℕ) → IsDistinct string_eq (keys_of (pair ∷ pairs))
    → bytes_eq name (string_bytes pair.0) ≡ true → find is_text pairs name ≡ None
find-behind pair pairs name distinct same =
    sym (find-is_text pairs name pair.0 (sym ((bytes_decides name (string_bytes pair.0)).0 same)))
    ∙ find-others (string_eq_equiv {Z = Global}) pairs pair.0 pair distinct ((string_eq_equiv {Z = Global}).refl pair.0)

pub change_member-view : (f : Json → Json) (pairs : List Entry) (name : List ℕ) (found v : Value) → IsDistinct string_eq (keys_of pairs)
    → value_at is_text pairs name ≡ Some found → view v ≡ f (view found)
    → members_view (set_value is_text pairs name v) ≡ change_member f name (members_view pairs)
change_member-view f [] name found v distinct there is = refl
change_member-view f (pair ∷ pairs) name found v distinct there is =
    by_test (bytes_eq name (string_bytes pair.0)) refl there
    (λ below. change_member-view f pairs name found v (IsDistinct-tail string_eq pair.0 (keys_of pairs) distinct) below is)
  where
    by_test : (b : Bool) → bytes_eq name (string_bytes pair.0) ≡ b
        → option_map (λ (p : Entry). p.1) (cond b (Some pair) (find is_text pairs name)) ≡ Some found
        → (value_at is_text pairs name ≡ Some found
        → members_view (set_value is_text pairs name v) ≡ change_member f name (members_view pairs))
        → members_view (set_value is_text (pair ∷ pairs) name v) ≡ change_member f name (members_view (pair ∷ pairs))
    by_test true same here rest =
        let found_is : pair.1 ≡ found = cc in
        rw (same, set_value-none is_text pairs name v (find-behind pair pairs name distinct same), is, found_is) refl
    by_test false apart here rest = rw apart (ap (member (string_bytes pair.0) (view pair.1)) (rest here))

-- the members stay if the value found does
pub change_member-own : (f : Json → Json) (name : List ℕ) (ms : Members) → ((j : Json) → find_member name ms ≡ Some j → f j ≡ j)
    → change_member f name ms ≡ ms
change_member-own f name no_members own = refl
change_member-own f name (member other j ms) own = by_test (change_member-own f name ms) (bytes_eq name other) refl own
  where
    by_test : (((k : Json) → find_member name ms ≡ Some k → f k ≡ k) → change_member f name ms ≡ ms)
        → (b : Bool) → bytes_eq name other ≡ b → ((k : Json) → cond b (Some j) (find_member name ms) ≡ Some k → f k ≡ k)
        → change_member f name (member other j ms) ≡ member other j ms
    by_test rest true same is = rw same (ap (λ k. member other k ms) (is j refl))
    by_test rest false apart is = rw apart (ap (member other j) (rest is))

-- items, by an index that is no more than 2 ^ 64 - 1

pub get_item-view : (vs : List Value) (n : ℕ) → get_item n (items_view vs) ≡ option_map view (slice_get vs n)
get_item-view [] n = refl
get_item-view (v ∷ vs) zero = refl
get_item-view (v ∷ vs) (suc n) = get_item-view vs n

pub change_item-view : (f : Json → Json) (vs : List Value) (n : ℕ) (found v : Value) → slice_get vs n ≡ Some found → view v ≡ f (view found)
    → items_view (slice_set vs n v) ≡ change_item f n (items_view vs)
change_item-view f [] n found v there is = refl
change_item-view f (w ∷ vs) zero found v there is =
    let found_is : w ≡ found = cc in rw (is, found_is) refl
change_item-view f (w ∷ vs) (suc n) found v there is = ap (item (view w)) (change_item-view f vs n found v there is)

pub change_item-own : (f : Json → Json) (n : ℕ) (js : Items) → ((j : Json) → get_item n js ≡ Some j → f j ≡ j)
    → change_item f n js ≡ js
change_item-own f n no_items own = refl
change_item-own f zero (item j js) own = ap (λ k. item k js) (own j refl)
change_item-own f (suc n) (item j js) own = ap (item j) (change_item-own f n js own)

abbrev pub capped : ℕ → ℕ
capped n = min n (2 ^ 64 - 1)

pub number_after-capped : (n m : ℕ) (xs : List ℕ) → capped n ≡ capped m
    → option_map capped (number_after n xs) ≡ option_map capped (number_after m xs)
number_after-capped n m [] same = ap Some same
number_after-capped n m (x ∷ xs) same =
    by_test (is_ascii_digit x) (number_after-capped (n * 10 + (x - 48)) (m * 10 + (x - 48)) xs (omega (arith, same)))
  where
    by_test : (b : Bool) → option_map capped (number_after (n * 10 + (x - 48)) xs) ≡ option_map capped (number_after (m * 10 + (x - 48)) xs)
        → option_map capped (cond b (number_after (n * 10 + (x - 48)) xs) None)
        ≡ option_map capped (cond b (number_after (m * 10 + (x - 48)) xs) None)
    by_test true rest = rest
    by_test false rest = refl

-- an index and its cap find the same
module _ (vs : List Value) (within : length vs < 2 ^ 64 - 1) where
  pub slice_get-capped : (n : ℕ) → slice_get vs n ≡ slice_get vs (capped n)
  slice_get-capped n = by_order (nat_le n (2 ^ 64 - 1)) refl
    where
      by_order : (b : Bool) → nat_le n (2 ^ 64 - 1) ≡ b → slice_get vs n ≡ slice_get vs (capped n)
      by_order true less = ap (slice_get vs) (omega (arith, leb-true n (2 ^ 64 - 1) less))
      by_order false more =
          let past = leb-false n (2 ^ 64 - 1) more in
          slice_get_past vs n (omega (arith, past, within)) ∙ sym (slice_get_past vs (capped n) (omega (arith, past, within)))

  module _ (index : Option ℕ) (at : ℕ) (is : Some at ≡ option_map capped index) where
    pub item-found : option_and_then (λ n. get_item n (items_view vs)) index ≡ option_map view (slice_get vs at)
    item-found = by_index index is
      where
        by_index : (o : Option ℕ) → Some at ≡ option_map capped o
            → option_and_then (λ n. get_item n (items_view vs)) o ≡ option_map view (slice_get vs at)
        by_index None h = absurd (cc)
        by_index (Some n) h =
            let at_is : at ≡ capped n = cc in
            get_item-view vs n ∙ ap (option_map view) (slice_get-capped n ∙ ap (slice_get vs) (sym at_is))

    pub items-changed : (f : Json → Json) (found v : Value) → slice_get vs at ≡ Some found → view v ≡ f (view found)
        → items_view (slice_set vs at v) ≡ change_items f index (items_view vs)
    items-changed f found v there changed = by_index index is
      where
        by_index : (o : Option ℕ) → Some at ≡ option_map capped o → items_view (slice_set vs at v) ≡ change_items f o (items_view vs)
        by_index None h = absurd (cc)
        by_index (Some n) h =
            let at_is : at ≡ capped n = cc in
            let inside = slice_get_within vs at found there in
            change_item-view f vs at found v there changed ∙ ap (λ k. change_item f k (items_view vs)) (omega
            (arith, at_is, inside, within))

    pub items-kept : (f : Json → Json) → slice_get vs at ≡ None → change_items f index (items_view vs) ≡ items_view vs
    items-kept f none = by_index index is
      where
        by_index : (o : Option ℕ) → Some at ≡ option_map capped o → change_items f o (items_view vs) ≡ items_view vs
        by_index None h = absurd (cc)
        by_index (Some n) h =
            let at_is : at ≡ capped n = cc in
            let gone : get_item n (items_view vs) ≡ None =
            get_item-view vs n ∙ ap (option_map view) (slice_get-capped n ∙ ap (slice_get vs) (sym at_is) ∙ none) in
            change_item-own f n (items_view vs) (λ j found. absurd (cc (gone, found)))

pub capped-none : (o : Option ℕ) → None ≡ option_map capped o → o ≡ None
capped-none None is = refl
capped-none (Some n) is = absurd (cc)

-- a value that is lent, seen as its data
pub view-copied : (r : Option (Bor Value)) → option_map (λ v. view v.now) r ≡ option_map view (option_copied r)
view-copied None = refl
view-copied (Some v) = refl

pub view-copied_mut : (r : Option (MutBor Value)) → option_map (λ v. view v.now) r ≡ option_map view (option_copied_mut r)
view-copied_mut None = refl
view-copied_mut (Some v) = refl
