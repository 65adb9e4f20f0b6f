-- For callers: insertions of items with distinct keys one by one, as one list.
use Rattle.std.proofs.Common.{◌≡◌, Bool, true, false, cond, not, List, [], ◌∷◌, ◌++◌, map, filter, append_assoc, arith, append-nil, Option}
use Rattle.std.proofs.Common.{Some, None, is_some, unwrap_or, refl, sym, ap, ap₂, ◌∙◌}
use Rattle.std.proofs.lemmas.{List.map-append, Map.Keys.IsDistinct-head, Map.Keys.IsDistinct-tail}
use Rattle.std.specs.{Cmp.IsEquivalence, List.IsDistinct, List.AllByRecursion, Map.keys_of}
use Rattle.linked_hash_map.specs.Pairs.{key_or, find, value_at, to_back, set_value, set_or_push}
use Rattle.linked_hash_map.specs.{declared.map.Mode.TheVariants.Touch, declared.map.Mode.TheVariants.Keep, Inserts.insert_each}
use Rattle.linked_hash_map.proofs.pairs.Calls.{set_value-none}
use Rattle.linked_hash_map.proofs.Callers.{Collected.filter-filter, Collected.filter-last, Collected.not_again, Lookups.eq-stored}
use Rattle.linked_hash_map.proofs.Callers.{Lookups.find-to_back, Lookups.find-set_or_push_apart, Turns.find-others}

map-same : {X : Type 0} (xs : List X) → map (λ x. x) xs ≡ xs
map-same [] = refl
map-same (x ∷ xs) = ap (λ ys. x ∷ ys) (map-same xs)

filter-all : {X : Type 0} (xs : List X) → filter (λ x. true) xs ≡ xs
filter-all [] = refl
filter-all (x ∷ xs) = ap (λ ys. x ∷ ys) (filter-all xs)

module _ {K V : Type 0} {eq : K → K → Bool} (laws : IsEquivalence eq) where
  -- a pair with the value that comes with its key, if one does
  abbrev updated : List (K × V) → K × V → K × V
  updated items pair = (pair.0, unwrap_or (value_at eq items pair.0) pair.1)

  module _ (item : K × V) (items : List (K × V)) (distinct : IsDistinct eq (keys_of (item ∷ items))) where
    updated-set : (pair : K × V) → updated items (cond (eq item.0 pair.0) (pair.0, item.1) pair) ≡ updated (item ∷ items) pair
    updated-set pair = grind (arith, find-others)

    map-updated_set : (pairs : List (K × V)) → map (updated items) (set_value eq pairs item.0 item.1) ≡ map (updated (item ∷ items)) pairs
    map-updated_set [] = refl
    map-updated_set (pair ∷ pairs) = ap₂ (λ p ps. p ∷ ps) (updated-set pair) (map-updated_set pairs)

    own : updated items (item.0, item.1) ≡ item
    own = grind (arith, find-others)

  new_pairs : (pairs : List (K × V)) (k : K) (v : V) (items : List (K × V)) → AllByRecursion (λ j. eq k j ≡ false) (keys_of items)
      → filter (λ p. not (is_some (find eq (set_or_push eq pairs k v) p.0))) items ≡ filter (λ p. not (is_some (find eq pairs p.0))) items
  new_pairs pairs k v [] apart = refl
  new_pairs pairs k v (item ∷ items) apart = grind (arith, find-set_or_push_apart, new_pairs pairs k v items apart.1)

  -- in Keep: the old pairs with the values that come with their keys, and behind them the new ones
  pub insert_each-keep : (pairs items : List (K × V)) → IsDistinct eq (keys_of items)
      → insert_each eq Keep pairs items
      ≡ map (λ pair. (pair.0, unwrap_or (value_at eq items pair.0) pair.1)) pairs
      ++ filter (λ pair. not (is_some (find eq pairs pair.0))) items
  insert_each-keep pairs [] distinct = sym (append-nil (map (λ pair. pair) pairs) ∙ map-same pairs)
  insert_each-keep pairs (item ∷ items) distinct =
      insert_each-keep (set_or_push eq pairs item.0 item.1) items (IsDistinct-tail eq item.0 (keys_of items) distinct)
      ∙ ap (λ ps. map (updated items) (set_or_push eq pairs item.0 item.1) ++ ps)
      (new_pairs pairs item.0 item.1 items (IsDistinct-head eq item.0 (keys_of items) distinct))
      ∙ by_pair (find eq pairs item.0) refl
    where
      new : List (K × V)
      new = filter (λ pair. not (is_some (find eq pairs pair.0))) items

      by_pair : (o : Option (K × V)) → find eq pairs item.0 ≡ o
          → map (updated items) (cond (is_some o) (set_value eq pairs item.0 item.1) (pairs ++ (item.0, item.1) ∷ [])) ++ new
          ≡ map (updated (item ∷ items)) pairs ++ cond (not (is_some o)) (item ∷ new) new
      by_pair None none =
          ap (λ ps. ps ++ new) (map-append (updated items) pairs ((item.0, item.1) ∷ [])
          ∙ ap₂ (λ ps p. ps ++ p ∷ []) (ap (map (updated items)) (sym (set_value-none eq pairs item.0 item.1 none))
          ∙ map-updated_set item items distinct pairs) (own item items distinct))
          ∙ append_assoc (map (updated (item ∷ items)) pairs) (item ∷ []) new
      by_pair (Some pair) found = ap (λ ps. ps ++ new) (map-updated_set item items distinct pairs)

  -- a pair with the key that is stored, if one is
  abbrev stored : List (K × V) → K × V → K × V
  stored pairs pair = (key_or pair.0 (find eq pairs pair.0), pair.1)

  stored_pairs : (pairs : List (K × V)) (k : K) (v : V) (items : List (K × V)) → AllByRecursion (λ j. eq k j ≡ false) (keys_of items)
      → map (stored (to_back eq pairs k v)) items ≡ map (stored pairs) items
  stored_pairs pairs k v [] apart = refl
  stored_pairs pairs k v (item ∷ items) apart = grind (arith, find-to_back, stored_pairs pairs k v items apart.1)

  -- in Touch: the old pairs whose keys do not come, and behind them the items, each with the
  -- stored key
  pub insert_each-touch : (pairs items : List (K × V)) → IsDistinct eq (keys_of items)
      → insert_each eq Touch pairs items
      ≡ filter (λ pair. not (is_some (find eq items pair.0))) pairs
      ++ map (λ pair. (key_or pair.0 (find eq pairs pair.0), pair.1)) items
  insert_each-touch pairs [] distinct = sym (append-nil (filter (λ pair. true) pairs) ∙ filter-all pairs)
  insert_each-touch pairs (item ∷ items) distinct =
      let apart = IsDistinct-head eq item.0 (keys_of items) distinct in
      let key = key_or item.0 (find eq pairs item.0) in
      let again : K × V → Bool = λ pair. not (is_some (find eq items pair.0)) in
      let old = filter (λ pair. not (eq item.0 pair.0)) pairs in
      let come = map (stored pairs) items in
      let gone = find-others laws items key item distinct (laws.symm key item.0 ∙ eq-stored laws pairs item.0) in
      insert_each-touch (to_back eq pairs item.0 item.1) items (IsDistinct-tail eq item.0 (keys_of items) distinct)
      ∙ ap (λ ps. filter again (to_back eq pairs item.0 item.1) ++ ps) (stored_pairs pairs item.0 item.1 items apart)
      ∙ ap (λ ps. ps ++ come) (filter-last again old (key, item.1) (ap (λ o. not (is_some o)) gone))
      ∙ append_assoc (filter again old) ((key, item.1) ∷ []) come
      ∙ ap (λ ps. ps ++ (key, item.1) ∷ come) (filter-filter again (λ pair. not (eq item.0 pair.0))
      (λ pair. not (is_some (find eq (item ∷ items) pair.0))) (λ pair. not_again laws items item pair.0) pairs)
