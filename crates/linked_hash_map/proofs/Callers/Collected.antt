-- For callers: insertions one after another.
use Rattle.std.proofs.Common.{◌≡◌, ◌+◌, ◌≤◌, Bool, true, false, cond, not, ◌||◌, List, [], ◌∷◌, ◌++◌, length, map, filter, reverse}
use Rattle.std.proofs.Common.{append_assoc, append-nil, Option, Some, None, is_some, option_map, refl, sym, ap, ap₂, ◌∙◌, arith}
use Rattle.std.proofs.lemmas.{List.reverse-append, List.Elements.filter-append, Map.Keys.IsDistinct-head, Map.Keys.IsDistinct-tail}
use Rattle.std.specs.{Option.option_or, List.All, List.IsDistinct, List.AllByRecursion, Map.keys_of, Cmp.IsEquivalence}
use Rattle.linked_hash_map.specs.declared.map.{Mode.Mode, Mode.TheVariants.Touch, Mode.TheVariants.Keep}
use Rattle.linked_hash_map.specs.Pairs.{key_or, find, value_at, to_back, set_or_push, put}
use Rattle.linked_hash_map.specs.Inserts.{insert_each}
use Rattle.linked_hash_map.proofs.lists.Elements.{by_last}
use Rattle.linked_hash_map.proofs.pairs.Inserts.{insert_each-last, length-put_most, distinct-put}
use Rattle.linked_hash_map.proofs.Callers.Keys.{keys_of-to_back, keys_of-set_or_push, put-absent}
use Rattle.linked_hash_map.proofs.Callers.Lookups.{lookup_entry-append, find-same, eq-find, eq-stored, value_at-put, find-put, find-to_back}
use Rattle.linked_hash_map.proofs.Callers.{Cuts.find-cut, EachPair.All-find, Lookups.find-set_or_push_apart, Turns.find-others}
-- items with keys that differ, inserted into nothing, are the pairs
pub use Rattle.linked_hash_map.proofs.pairs.Inserts.{insert_each-distinct}

or-false : (b : Bool) → b ≡ (b || false)
or-false b = grind arith

module _ {K V : Type 0} (eq : K → K → Bool) where
  -- one more item goes in last
  pub insert_each-snoc : (mode : Mode) (pairs items : List (K × V)) (item : K × V)
      → insert_each eq mode pairs (items ++ item ∷ []) ≡ put eq mode (insert_each eq mode pairs items) item.0 item.1
  insert_each-snoc mode pairs items item = insert_each-last eq mode pairs items item

  pub insert_each-append : (mode : Mode) (pairs items others : List (K × V))
      → insert_each eq mode pairs (items ++ others) ≡ insert_each eq mode (insert_each eq mode pairs items) others
  insert_each-append mode pairs [] others = refl
  insert_each-append mode pairs (item ∷ items) others = insert_each-append mode (put eq mode pairs item.0 item.1) items others

module _ {K V : Type 0} {eq : K → K → Bool} (laws : IsEquivalence eq) where
  -- a key has the last value that came with it, or what it had
  pub value_at-insert_each : (mode : Mode) (pairs items : List (K × V)) (q : K)
      → value_at eq (insert_each eq mode pairs items) q ≡ option_or (value_at eq (reverse items) q) (value_at eq pairs q)
  value_at-insert_each mode pairs items q =
      by_last (λ items. value_at eq (insert_each eq mode pairs items) q
      ≡ option_or (value_at eq (reverse items) q) (value_at eq pairs q))
      (λ items item rest. ap (λ es. value_at eq es q) (insert_each-last eq mode pairs items item)
      ∙ value_at-put laws mode (insert_each eq mode pairs items) item.0 q item.1
      ∙ ap (cond (eq item.0 q) (Some item.1)) rest ∙ last_first (eq q item.0) item
      (find eq (reverse items) q) (value_at eq pairs q) (laws.symm item.0 q)
      ∙ ap (λ es. option_or (value_at eq es q) (value_at eq pairs q))
      (sym (reverse-append items (item ∷ [])))) refl items
    where
      last_first : (b : Bool) (item : K × V) (o : Option (K × V)) (older : Option V)
          → eq item.0 q ≡ b
          → cond (eq item.0 q) (Some item.1) (option_or (option_map (λ pair. pair.1) o) older)
          ≡ option_or (option_map (λ pair. pair.1) (cond b (Some item) o)) older
      last_first true item o older same = ap (λ b. cond b (Some item.1) (option_or (option_map (λ (pair : K × V). pair.1) o) older)) same
      last_first false item o older same = ap (λ b. cond b (Some item.1) (option_or (option_map (λ (pair : K × V). pair.1) o) older)) same

  -- a key is present if it was, or came with some item
  pub is_some-insert_each : (mode : Mode) (pairs items : List (K × V)) (q : K)
      → is_some (find eq (insert_each eq mode pairs items) q) ≡ (is_some (find eq pairs q) || is_some (find eq items q))
  is_some-insert_each mode pairs [] q = or-false (is_some (find eq pairs q))
  is_some-insert_each mode pairs (item ∷ items) q =
      grind (arith, find-put, is_some-insert_each mode (put eq mode pairs item.0 item.1) items q)

  -- one pair for each item comes at most
  pub length-insert_each_most : (mode : Mode) (pairs items : List (K × V)) → IsDistinct eq (keys_of pairs)
      → length (insert_each eq mode pairs items) ≤ length pairs + length items
  length-insert_each_most mode pairs [] distinct = omega arith
  length-insert_each_most mode pairs (item ∷ items) distinct =
      let rest = length-insert_each_most mode (put eq mode pairs item.0 item.1) items
      (distinct-put laws mode pairs item.0 item.1 distinct) in
      grind (arith, length-put_most)

-- items whose keys differ: a key has the value that came with it, or what it had
module _ {K V : Type 0} {eq : K → K → Bool} (laws : IsEquivalence eq) (mode : Mode) where
  pub value_at-insert_each_distinct : (pairs items : List (K × V)) (q : K) → IsDistinct eq (keys_of items)
      → value_at eq (insert_each eq mode pairs items) q ≡ option_or (value_at eq items q) (value_at eq pairs q)
  value_at-insert_each_distinct pairs [] q distinct = refl
  value_at-insert_each_distinct pairs (item ∷ items) q distinct =
      value_at-insert_each_distinct (put eq mode pairs item.0 item.1) items q (IsDistinct-tail eq item.0 (keys_of items) distinct)
      ∙ ap (option_or (value_at eq items q)) (value_at-put laws mode pairs item.0 q item.1)
      ∙ by_test (eq q item.0) refl
    where
      by_test : (b : Bool) → eq q item.0 ≡ b
          → option_or (value_at eq items q) (cond (eq item.0 q) (Some item.1) (value_at eq pairs q))
          ≡ option_or (option_map (λ (pair : K × V). pair.1) (cond b (Some item) (find eq items q)))
          (value_at eq pairs q)
      by_test true same =
          let none = find-others laws items q item distinct same in
          ap (λ o. option_or (option_map (λ (pair : K × V). pair.1) o) (cond (eq item.0 q) (Some item.1) (value_at eq pairs q))) none
          ∙ ap (λ b. cond b (Some item.1) (value_at eq pairs q)) (laws.symm item.0 q ∙ same)
      by_test false apart =
          ap (λ b. option_or (value_at eq items q) (cond b (Some item.1) (value_at eq pairs q)))
          (laws.symm item.0 q ∙ apart)

-- items with other keys than the old ones go behind these
module _ {K V : Type 0} {eq : K → K → Bool} (laws : IsEquivalence eq) (mode : Mode) where
  apart_each : (pairs items : List (K × V)) → IsDistinct eq (keys_of items)
      → ((q : K) (item : K × V) → find eq items q ≡ Some item → find eq pairs q ≡ None) → insert_each eq mode pairs items ≡ pairs ++ items
  apart_each pairs [] distinct absent = sym (append-nil pairs)
  apart_each pairs (item ∷ items) distinct absent =
      let none = absent item.0 item (find-cut laws [] item items distinct) in
      let rest = apart_each (pairs ++ item ∷ []) items (IsDistinct-tail eq item.0 (keys_of items) distinct) (λ q other there.
      grind (arith, there, absent q other, find-others laws items q item distinct, lookup_entry-append)) in
      grind (arith, none, rest, put-absent, append_assoc)

  pub insert_each-apart : (pairs items : List (K × V)) → IsDistinct eq (keys_of items)
      → All (λ item. find eq pairs item.0 ≡ None) items → insert_each eq mode pairs items ≡ pairs ++ items
  insert_each-apart pairs items distinct absent = apart_each pairs items distinct
      (λ q item there. find-same laws pairs q item.0 (eq-find laws items q item there)
      ∙ All-find (λ (p : K × V). find eq pairs p.0 ≡ None) eq items q absent item there)

-- in Keep the old keys stand, and the new ones come behind them, in order
filter-alike : {K : Type 0} (one other : K → Bool) (ks : List K)
    → AllByRecursion (λ k. one k ≡ other k) ks → filter one ks ≡ filter other ks
filter-alike one other [] all = refl
filter-alike one other (k ∷ ks) all = ap₂ (λ b rest. cond b (k ∷ rest) rest) all.0 (filter-alike one other ks all.1)

module _ {K V : Type 0} {eq : K → K → Bool} (laws : IsEquivalence eq) where
  new-set_or_push : (pairs : List (K × V)) (k : K) (v : V) (ks : List K) → AllByRecursion (λ j. eq k j ≡ false) ks
      → AllByRecursion (λ j. not (is_some (find eq (set_or_push eq pairs k v) j)) ≡ not (is_some (find eq pairs j))) ks
  new-set_or_push pairs k v [] apart = tt
  new-set_or_push pairs k v (j ∷ ks) apart = grind (arith, find-set_or_push_apart, new-set_or_push pairs k v ks apart.1)

  pub keys_of-insert_each_keep : (pairs items : List (K × V)) → IsDistinct eq (keys_of items)
      → keys_of (insert_each eq Keep pairs items) ≡ keys_of pairs ++ filter (λ k. not (is_some (find eq pairs k))) (keys_of items)
  keys_of-insert_each_keep pairs [] distinct = sym (append-nil (keys_of pairs))
  keys_of-insert_each_keep pairs (item ∷ items) distinct =
      let apart = IsDistinct-head eq item.0 (keys_of items) distinct in
      keys_of-insert_each_keep (set_or_push eq pairs item.0 item.1) items (IsDistinct-tail eq item.0 (keys_of items) distinct)
      ∙ ap₂ (λ ks fs. ks ++ fs) (keys_of-set_or_push eq pairs item.0 item.1)
      (filter-alike (λ j. not (is_some (find eq (set_or_push eq pairs item.0 item.1) j)))
      (λ j. not (is_some (find eq pairs j))) (keys_of items)
      (new-set_or_push pairs item.0 item.1 (keys_of items) apart))
      ∙ by_test (is_some (find eq pairs item.0))
    where
      by_test : (b : Bool)
          → cond b (keys_of pairs) (keys_of pairs ++ item.0 ∷ [])
          ++ filter (λ k. not (is_some (find eq pairs k))) (keys_of items)
          ≡ keys_of pairs
          ++ cond (not b) (item.0 ∷ filter (λ k. not (is_some (find eq pairs k))) (keys_of items))
          (filter (λ k. not (is_some (find eq pairs k))) (keys_of items))
      by_test true = refl
      by_test false = append_assoc (keys_of pairs) (item.0 ∷ []) (filter (λ k. not (is_some (find eq pairs k))) (keys_of items))

-- in Touch the old keys that do not come again stand before those that come, each as it is stored
pub filter-filter : {K : Type 0} (one other both : K → Bool) → ((k : K) → cond (other k) (one k) false ≡ both k) → (ks : List K)
    → filter one (filter other ks) ≡ filter both ks
filter-filter one other both says [] = refl
filter-filter one other both says (k ∷ ks) = by_test (other k) (says k) (filter-filter one other both says ks)
  where
    by_test : (b : Bool) → cond b (one k) false ≡ both k
        → filter one (filter other ks) ≡ filter both ks
        → filter one (cond b (k ∷ filter other ks) (filter other ks))
        ≡ cond (both k) (k ∷ filter both ks) (filter both ks)
    by_test true same rest = ap₂ (λ c xs. cond c (k ∷ xs) xs) same rest
    by_test false same rest = rest ∙ ap (λ c. cond c (k ∷ filter both ks) (filter both ks)) same

pub filter-last : {K : Type 0} (test : K → Bool) (ks : List K) (k : K) → test k ≡ true
    → filter test (ks ++ k ∷ []) ≡ filter test ks ++ k ∷ []
filter-last test ks k passes = filter-append test ks (k ∷ []) ∙ ap (λ b. filter test ks ++ cond b (k ∷ []) []) passes

module _ {K V : Type 0} {eq : K → K → Bool} (laws : IsEquivalence eq) where
  stored-to_back : (pairs : List (K × V)) (k : K) (v : V) (ks : List K) → AllByRecursion (λ j. eq k j ≡ false) ks
      → map (λ j. key_or j (find eq (to_back eq pairs k v) j)) ks ≡ map (λ j. key_or j (find eq pairs j)) ks
  stored-to_back pairs k v [] apart = refl
  stored-to_back pairs k v (j ∷ ks) apart = grind (arith, find-to_back, stored-to_back pairs k v ks apart.1)

  -- a key does not come again if it is not the first item's and none of the others
  pub not_again : (items : List (K × V)) (item : K × V) (j : K)
      → cond (not (eq item.0 j)) (not (is_some (find eq items j))) false ≡ not (is_some (cond (eq j item.0) (Some item) (find eq items j)))
  not_again items item j = grind arith

  pub keys_of-insert_each_touch : (pairs items : List (K × V)) → IsDistinct eq (keys_of items)
      → keys_of (insert_each eq Touch pairs items)
      ≡ filter (λ k. not (is_some (find eq items k))) (keys_of pairs)
      ++ map (λ k. key_or k (find eq pairs k)) (keys_of items)
  keys_of-insert_each_touch pairs [] distinct = sym (append-nil (filter (λ k. true) (keys_of pairs)) ∙ filter-all (keys_of pairs))
    where
      filter-all : (ks : List K) → filter (λ k. true) ks ≡ ks
      filter-all [] = refl
      filter-all (k ∷ ks) = ap (λ xs. k ∷ xs) (filter-all ks)
  keys_of-insert_each_touch pairs (item ∷ items) distinct =
      let apart = IsDistinct-head eq item.0 (keys_of items) distinct in
      let stored = key_or item.0 (find eq pairs item.0) in
      let again : K → Bool = λ k. not (is_some (find eq items k)) in
      let old = filter (λ j. not (eq item.0 j)) (keys_of pairs) in
      let come = map (λ j. key_or j (find eq pairs j)) (keys_of items) in
      let gone = find-others laws items stored item distinct (laws.symm stored item.0 ∙ eq-stored laws pairs item.0) in
      keys_of-insert_each_touch (to_back eq pairs item.0 item.1) items (IsDistinct-tail eq item.0 (keys_of items) distinct)
      ∙ ap₂ (λ ks js. filter again ks ++ js) (keys_of-to_back eq pairs item.0 item.1)
      (stored-to_back pairs item.0 item.1 (keys_of items) apart)
      ∙ ap (λ ks. ks ++ come) (filter-last again old stored (ap (λ o. not (is_some o)) gone))
      ∙ append_assoc (filter again old) (stored ∷ []) come
      ∙ ap (λ ks. ks ++ stored ∷ come) (filter-filter again (λ j. not (eq item.0 j))
      (λ j. not (is_some (find eq (item ∷ items) j))) (not_again items item) (keys_of pairs))

-- insertions one after another, as lists that are inserted one after another
pub ruleset insertions = (insert_each-append, insert_each-snoc)
