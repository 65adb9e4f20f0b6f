-- For callers: what pointers to removed values and to those beside them find.
use Rattle.std.proofs.Common.{◌≡◌, ℕ, zero, suc, ◌<◌, ◌≤◌, List, [], ◌∷◌, ◌++◌, Option, Some, None, option_map, option_and_then}
use Rattle.std.proofs.Common.{unwrap_or, Ok, cond, Bool, true, false, refl, sym, ap, ◌∙◌, arith}
use Rattle.std.specs.Option.{ok_or}
use Rattle.json.specs.Find.{get_item}
use Rattle.json.specs.Json.{Json, array, object, Items, no_items, item, Members}
use Rattle.ordered_json.specs.Edits.{Edited, by_names, edit_parent, remove_at, without_child, without_item, without_member}
use Rattle.ordered_json.specs.Merge.{drop_member}
use Rattle.ordered_json.specs.Pointers.{names, index, child, find_member, get_at, pointed, change_at}
use Rattle.ordered_json.specs.declared.edit.EditError.TheVariants.{Absent, OutOfRange}
use Rattle.ordered_json.proofs.Pointed.{IsEdit, edited, pointed-edited, is_same, lead_apart, child-change_apart, child-change_kept}

by_some : {a b : Json} → Some a ≡ Some b → a ≡ b
by_some same = cc

-- an item behind one that is removed has the index before its own then
get_item-behind : (n m : ℕ) (js ks : Items) → without_item n js ≡ Some ks → n ≤ m → get_item m ks ≡ get_item (suc m) js
get_item-behind n m no_items ks is less = absurd (cc)
get_item-behind zero m (item j js) ks is less = let same : js ≡ ks = cc in ap (get_item m) (sym same)
get_item-behind (suc n) zero (item j js) ks is less = absurd (omega (arith, less))
get_item-behind (suc n) (suc m) (item j js) ks is less =
    by_rest (without_item n js) is (λ ms rest. get_item-behind n m js ms rest (omega (arith, less)))
  where
    by_rest : (o : Option Items) → option_map (item j) o ≡ Some ks → ((ms : Items) → o ≡ Some ms → get_item m ms ≡ get_item (suc m) js)
        → get_item (suc m) ks ≡ get_item (suc m) js
    by_rest None h below = absurd (cc)
    by_rest (Some ms) h below = let same : item j ms ≡ ks = cc in ap (get_item (suc m)) (sym same) ∙ below ms refl

get_item-before : (n m : ℕ) (js ks : Items) → without_item n js ≡ Some ks → m < n → get_item m ks ≡ get_item m js
get_item-before n m no_items ks is less = absurd (cc)
get_item-before zero m (item j js) ks is less = absurd (omega (arith, less))
get_item-before (suc n) zero (item j js) ks is less = by_rest (without_item n js) is
  where
    by_rest : (o : Option Items) → option_map (item j) o ≡ Some ks → get_item 0 ks ≡ Some j
    by_rest None h = absurd (cc)
    by_rest (Some ms) h = let same : item j ms ≡ ks = cc in ap (get_item 0) (sym same)
get_item-before (suc n) (suc m) (item j js) ks is less =
    by_rest (without_item n js) is (λ ms rest. get_item-before n m js ms rest (omega (arith, less)))
  where
    by_rest : (o : Option Items) → option_map (item j) o ≡ Some ks → ((ms : Items) → o ≡ Some ms → get_item m ms ≡ get_item m js)
        → get_item (suc m) ks ≡ get_item m js
    by_rest None h below = absurd (cc)
    by_rest (Some ms) h below = let same : item j ms ≡ ks = cc in ap (get_item (suc m)) (sym same) ∙ below ms refl

-- after a removal of item n: from its own pointer on, each finds the item behind
module _ (text other : List ℕ) (path : List (List ℕ)) (name q : List ℕ) (j k : Json) (is : names text ≡ Some (path ++ name ∷ []))
    (other_is : names other ≡ Some (path ++ q ∷ [])) (done : remove_at text j ≡ Ok k) (js : Items) (n m : ℕ)
    (there : get_at path j ≡ Some (array js)) (at : index name ≡ Some n) (other_at : index q ≡ Some m) where
  items_left : (ks : Items) × (without_item n js ≡ Some ks) × (pointed other k ≡ get_item m ks)
  items_left =
      by_rest (without_item n js) refl
      (sym (ap (λ o. ok_or (option_map array (option_and_then (λ i. without_item i js) o)) OutOfRange) at)
      ∙ ap (without_child name) (by_some (sym there ∙ e.found)) ∙ e.edit)
    where
      e : IsEdit (without_child name) path j k
      e = edited without_child text path name j k is done

      by_rest : (o : Option Items) → without_item n js ≡ o → ok_or (option_map array o) OutOfRange ≡ Ok e.after
          → (ks : Items) × (without_item n js ≡ Some ks) × (pointed other k ≡ get_item m ks)
      by_rest None without h = absurd (cc)
      by_rest (Some ks) without h =
          let same : array ks ≡ e.after = cc in (
            ks,
            without,
            pointed-edited without_child text path name j k is done other q other_is ∙ ap (child q) (sym same)
                ∙ ap (option_and_then (λ i. get_item i ks)) other_at,
          )

  pub pointed-remove_behind : n ≤ m → pointed other k ≡ get_item (suc m) js
  pointed-remove_behind less = items_left.2 ∙ get_item-behind n m js items_left.0 items_left.1 less

  pub pointed-remove_before : m < n → pointed other k ≡ get_item m js
  pointed-remove_before less = items_left.2 ∙ get_item-before n m js items_left.0 items_left.1 less

-- after a removal of a member, whose name is once in its object, nothing is there
pub pointed-remove_member : (text : List ℕ) (path : List (List ℕ)) (name : List ℕ) (j k : Json) (ms : Members)
    → names text ≡ Some (path ++ name ∷ []) → get_at path j ≡ Some (object ms) → find_member name (drop_member name ms) ≡ None
    → remove_at text j ≡ Ok k → pointed text k ≡ None
pointed-remove_member text path name j k ms is there once done =
    by_rest (without_member name ms) refl (ap (without_child name) (by_some (sym there ∙ e.found)) ∙ e.edit)
  where
    e : IsEdit (without_child name) path j k
    e = edited without_child text path name j k is done

    by_rest : (o : Option Members) → without_member name ms ≡ o → ok_or (option_map object o) Absent ≡ Ok e.after
        → pointed text k ≡ None
    by_rest None without h = absurd (cc)
    by_rest (Some rest) without h =
        let same : object rest ≡ e.after = cc in
        pointed-edited without_child text path name j k is done text name is ∙ ap (child name) (sym same)
        ∙ sym (ap (λ o. find_member name (unwrap_or o ms)) without) ∙ once

-- ---- any edit: a pointer that leads apart from the value which it takes place in

get_at-change_apart : (f : Json → Json) (path other : List (List ℕ)) (j : Json) → lead_apart path other ≡ true
    → get_at other (change_at f path j) ≡ get_at other j
get_at-change_apart f [] other j apart = absurd (cc)
get_at-change_apart f (name ∷ path) [] j apart = absurd (cc)
get_at-change_apart f (name ∷ path) (q ∷ other) j apart =
    by_test (is_same name q) refl apart (λ h k. get_at-change_apart f path other k h)
  where
    by_test : (b : Bool) → is_same name q ≡ b → cond b (lead_apart path other) true ≡ true
        → (lead_apart path other ≡ true → (k : Json) → get_at other (change_at f path k) ≡ get_at other k)
        → get_at (q ∷ other) (change_at f (name ∷ path) j) ≡ get_at (q ∷ other) j
    by_test true same h below = child-change_kept (get_at other) (change_at f path) (below h) name q j
    by_test false differ h below = ap (option_and_then (get_at other)) (child-change_apart name q differ (change_at f path) j)

pub pointed-edit_outside : (f : List ℕ → Json → Edited) (text other : List ℕ) (path more : List (List ℕ)) (name : List ℕ) (j k : Json)
    → names text ≡ Some (path ++ name ∷ []) → names other ≡ Some more → lead_apart path more ≡ true
    → by_names (edit_parent f) (names text) j ≡ Ok k → pointed other k ≡ pointed other j
pointed-edit_outside f text other path more name j k is more_is apart done =
    let e = edited f text path name j k is done in
    ap (option_and_then (λ ns. get_at ns k)) more_is ∙ ap (get_at more) e.document ∙ get_at-change_apart (λ _. e.after) path more j apart
    ∙ sym (ap (option_and_then (λ ns. get_at ns j)) more_is)
