-- The loops of a sort, over the items of an array and over the members of an object.
use Rattle.std.proofs.Common.{◌≡◌, ℕ, zero, suc, ◌+◌, ◌<◌, ◌≤◌, List, [], ◌∷◌, ◌++◌, length}
use Rattle.std.proofs.Common.{map, take, drop, Option, Some, None, option_map}
use Rattle.std.proofs.Common.{refl, sym, ap, ap₂, subst, ◌∙◌, arith, append_assoc, append-nil, length-append}
use Rattle.std.proofs.lemmas.List.{map-append}
use Rattle.std.specs.String.{string_bytes}
use Rattle.json.specs.Json.{Json, Items, no_items, item, Members, member}
use Rattle.json.specs.Find.{get_item}
use Rattle.json.specs.Tree.{depth, members_depth}
use Rattle.linked_hash_map.specs.Pairs.{first, set_first}
use Rattle.ordered_json.specs.Pointers.{change_item}
use Rattle.ordered_json.specs.Sorts.{sorted, sorted_items, sorted_members}
use Rattle.ordered_json.specs.View.{items_view, members_view, view}
use Rattle.ordered_json.specs.declared.value.Value.{Value}
use Rattle.ordered_json.proofs.Views.{Entry}

-- the items, of which the first n are sorted
abbrev pub sorted_first : ℕ → Items → Items
sorted_first zero js = js
sorted_first (suc n) no_items = no_items
sorted_first (suc n) (item j js) = item (sorted j) (sorted_first n js)

pub change_item-sorted_first : (n : ℕ) (js : Items) → change_item sorted n (sorted_first n js) ≡ sorted_first (suc n) js
change_item-sorted_first zero no_items = refl
change_item-sorted_first zero (item j js) = refl
change_item-sorted_first (suc n) no_items = refl
change_item-sorted_first (suc n) (item j js) = ap (item (sorted j)) (change_item-sorted_first n js)

pub get_item-sorted_first : (n : ℕ) (js : Items) → get_item n (sorted_first n js) ≡ get_item n js
get_item-sorted_first zero js = refl
get_item-sorted_first (suc n) no_items = refl
get_item-sorted_first (suc n) (item j js) = get_item-sorted_first n js

pub sorted_first-all : (vs : List Value) → sorted_first (length vs) (items_view vs) ≡ sorted_items (items_view vs)
sorted_first-all [] = refl
sorted_first-all (v ∷ vs) = ap (item (sorted (view v))) (sorted_first-all vs)

pub length-sorted_first : (vs xs : List Value) (n : ℕ) → items_view vs ≡ sorted_first n (items_view xs) → length vs ≡ length xs
length-sorted_first [] [] n same = refl
length-sorted_first [] (x ∷ xs) zero same = absurd (cc)
length-sorted_first [] (x ∷ xs) (suc n) same = absurd (cc)
length-sorted_first (v ∷ vs) [] zero same = absurd (cc)
length-sorted_first (v ∷ vs) [] (suc n) same = absurd (cc)
length-sorted_first (v ∷ vs) (x ∷ xs) zero same =
    let rest : items_view vs ≡ items_view xs = cc in ap suc (length-sorted_first vs xs zero rest)
length-sorted_first (v ∷ vs) (x ∷ xs) (suc n) same =
    let rest : items_view vs ≡ sorted_first n (items_view xs) = cc in ap suc (length-sorted_first vs xs n rest)

pub some-none : {A : Type 0} {o : Option Value} {v : Value} → o ≡ Some v → o ≡ None → A
some-none some none = absurd (cc)

-- a pair as its name and value, and the same sorted
abbrev pub as_member : Entry → List ℕ × Json
as_member p = (string_bytes p.0, view p.1)

abbrev pub sorted_member : Entry → List ℕ × Json
sorted_member p = (string_bytes p.0, sorted (view p.1))

pub members_view-each_sorted : (done front : List Entry) → map as_member done ≡ map sorted_member front
    → members_view done ≡ sorted_members (members_view front)
members_view-each_sorted [] [] same = refl
members_view-each_sorted [] (p ∷ front) same = absurd (cc)
members_view-each_sorted (d ∷ done) [] same = absurd (cc)
members_view-each_sorted (d ∷ done) (p ∷ front) same =
    let first : as_member d ≡ sorted_member p = cc in
    let rest : map as_member done ≡ map sorted_member front = cc in
    ap₂ (λ m ms. member m.0 m.1 ms) first (members_view-each_sorted done front rest)

map-turned : (done front : List Entry) (d p : Entry) → map as_member done ≡ map sorted_member front → as_member d ≡ sorted_member p
    → map as_member (done ++ d ∷ []) ≡ map sorted_member (front ++ p ∷ [])
map-turned done front d p same turned =
    map-append as_member done (d ∷ []) ∙ ap₂ (λ ms m. ms ++ m ∷ []) same turned ∙ sym (map-append sorted_member front (p ∷ []))

members_depth-within : (front : List Entry) (p : Entry) (left : List Entry)
    → depth (view p.1) ≤ members_depth (members_view (front ++ p ∷ left))
members_depth-within [] p left = omega arith
members_depth-within (q ∷ front) p left = omega (arith, members_depth-within front p left)

-- the pairs after n turns: those of `left` are still to be sorted, and `done` is what became of `front`
pub record IsTurning (all pairs : List Entry) (n : ℕ) : Type 0 where
  pub front : List Entry
  pub left : List Entry
  pub done : List Entry
  pub all_is : all ≡ front ++ left
  pub pairs_is : pairs ≡ left ++ done
  pub same : map as_member done ≡ map sorted_member front
  pub count : length front ≡ n

pub IsTurning-start : (all : List Entry) → IsTurning all all 0
IsTurning-start all = record {
  front = [];
  left = all;
  done = [];
  all_is = refl;
  pairs_is = sym (append-nil all);
  same = refl;
  count = refl;
}

module _ (all pairs : List Entry) (n : ℕ) (t : IsTurning all pairs n) where
  length-left : length all ≡ n + length t.left
  length-left = ap length t.all_is ∙ length-append t.front t.left ∙ ap (λ k. k + length t.left) t.count

  pub IsTurning-end : length all ≤ n → members_view pairs ≡ sorted_members (members_view all)
  IsTurning-end no_more = by_left t.left refl
    where
      by_left : (es : List Entry) → t.left ≡ es → members_view pairs ≡ sorted_members (members_view all)
      by_left [] is =
          ap members_view (t.pairs_is ∙ ap (λ es. es ++ t.done) is) ∙ members_view-each_sorted t.done t.front t.same
          ∙ ap (λ ps. sorted_members (members_view ps)) (sym (t.all_is ∙ ap (λ es. t.front ++ es) is ∙ append-nil t.front))
      by_left (e ∷ rest) is = absurd (omega (arith, no_more, length-left, ap length is))

  module _ (more : n < length all) where
    pub head : (e : Entry) × (rest : List Entry) × (t.left ≡ e ∷ rest)
    head = by_left t.left refl
      where
        by_left : (es : List Entry) → t.left ≡ es → (e : Entry) × (rest : List Entry) × (t.left ≡ e ∷ rest)
        by_left [] is = absurd (omega (arith, more, length-left, ap length is))
        by_left (e ∷ rest) is = (e, rest, is)

    pairs_cons : pairs ≡ head.0 ∷ (head.1 ++ t.done)
    pairs_cons = t.pairs_is ∙ ap (λ es. es ++ t.done) head.2

    pub IsTurning-first : option_map (λ p. p.1) (first pairs) ≡ Some head.0.1
    IsTurning-first = ap (λ ps. option_map (λ p. p.1) (first ps)) pairs_cons

    by_some : {a b : Value} → Some a ≡ Some b → a ≡ b
    by_some h = cc

    pub IsTurning-depth : (v : Value) → Some v ≡ option_map (λ p. p.1) (first pairs) → depth (view v) ≤ members_depth (members_view all)
    IsTurning-depth v is =
        let deep : depth (view head.0.1) ≤ members_depth (members_view (t.front ++ head.0 ∷ head.1)) =
        members_depth-within t.front head.0 head.1 in
        let all_cons : all ≡ t.front ++ head.0 ∷ head.1 = t.all_is ∙ ap (λ es. t.front ++ es) head.2 in
        omega (
          arith,
          deep,
          ap (λ ps. members_depth (members_view ps)) all_cons,
          ap (λ w. depth (view w)) (by_some (is ∙ IsTurning-first)),
        )

    pub IsTurning-next : (old v : Value) → Some old ≡ option_map (λ p. p.1) (first pairs) → view v ≡ sorted (view old)
        → (after : List Entry) → after ≡ drop 1 (set_first pairs v) ++ take 1 (set_first pairs v) → IsTurning all after (n + 1)
    IsTurning-next old v old_is sorts after after_is =
        let e = head.0 in let rest = head.1 in record {
          front = t.front ++ e ∷ [];
          left = rest;
          done = t.done ++ (e.0, v) ∷ [];
          all_is = t.all_is ∙ ap (λ es. t.front ++ es) head.2 ∙ sym (append_assoc t.front (e ∷ []) rest);
          pairs_is = after_is ∙ ap (λ ps. drop 1 (set_first ps v) ++ take 1 (set_first ps v)) pairs_cons
              ∙ append_assoc rest t.done ((e.0, v) ∷ []);
          same = map-turned t.done t.front (e.0, v) e t.same
              (ap (λ j. (string_bytes e.0, j)) (sorts ∙ ap (λ w. sorted (view w)) (by_some (old_is ∙ IsTurning-first))));
          count = omega (arith, length-append t.front (e ∷ []), t.count);
        }
