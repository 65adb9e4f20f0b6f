-- For callers: a count for each item of a list, one item after another, and the keys in the order
-- in which they first come.
use Rattle.std.proofs.Common.{◌≡◌, ℕ, ◌+◌, ◌<◌, Bool, true, false, List, [], ◌∷◌, ◌++◌, length, take, get_or, fold, Option, Some, None}
use Rattle.std.proofs.Common.{option_map, unwrap_or, refl, sym, ap, subst, ◌∙◌, arith, length-take}
use Rattle.std.proofs.lemmas.List.Sums.{count_by_more_yes, count_by_more_no, count_by-le-length}
use Rattle.std.specs.{Prelude.if◌then◌else◌, List.count_by, List.list_any, Map.keys_of, Cmp.IsEquivalence}
use Rattle.linked_hash_map.specs.{Pairs.value_at, Pairs.set_or_push, Pairs.ActsAs, Updates.Updates}
use Rattle.linked_hash_map.proofs.Callers.Lookups.{value_at-same}
use Rattle.linked_hash_map.proofs.pairs.CountedItems.{count_by-set_or_push, count-lt-length, keys_of-set_or_push_first_seen}

-- each key has as its count of how many items it is the key, which is 0 if it has none; the keys stand
-- in the order in which they first come
pub record CountsItemsBy {A K : Type 0} (eq : K → K → Bool) (key_of : A → K) (counts : List (K × ℕ)) (items : List A) : Type 0 where
  pub count : (q : K) → unwrap_or (value_at eq counts q) 0 ≡ count_by (λ item. eq q (key_of item)) items
  pub order : keys_of counts
      ≡ fold (λ seen item. if list_any (eq (key_of item)) seen then seen else seen ++ key_of item ∷ []) [] items

pub CountsItemsBy-start : {A K : Type 0} (eq : K → K → Bool) (key_of : A → K) (counts : List (K × ℕ)) → counts ≡ []
    → CountsItemsBy eq key_of counts []
CountsItemsBy-start eq key_of counts empty = grind arith

-- a step of the loop, as the clauses of `entry` and of `or_insert` say it: the key k of an item is
-- counted, and `stored` is the key of its entry
module _ {A K : Type 0} {eq : K → K → Bool} (laws : IsEquivalence eq) {key_of : A → K} {before : List (K × ℕ)} (items : List A) (i : ℕ)
    (w : CountsItemsBy eq key_of before (take i items)) (within : i < length items) {k : K} {item : A} (d : A)
    (item_is : item ≡ get_or items i d) (key_is : k ≡ key_of item) where
  next_is : k ≡ key_of (get_or items i d)
  next_is = key_is ∙ ap key_of item_is

  pub CountsItemsBy-counted : {after : List (K × ℕ)} {stored : K} → ActsAs eq before stored k
      → after ≡ set_or_push eq before stored (unwrap_or (value_at eq before k) 0 + 1) → CountsItemsBy eq key_of after (take (i + 1) items)
  CountsItemsBy-counted {after} acts written =
      let n = unwrap_or (value_at eq before k) 0 + 1 in
      let is : after ≡ set_or_push eq before (key_of (get_or items i d)) n =
      written ∙ acts.sets_or_pushes n ∙ ap (λ j. set_or_push eq before j n) next_is in
      record {
        count = λ q. ap (λ ps. unwrap_or (value_at eq ps q) 0) is ∙ count_by-set_or_push laws key_of before items d q i within w.count
            (ap (λ j. unwrap_or (value_at eq before j) 0 + 1) next_is);
        order = ap keys_of is ∙ keys_of-set_or_push_first_seen laws key_of before items d n i within w.order;
      }

  -- its count so far is below the number of items
  pub CountsItemsBy-below : unwrap_or (value_at eq before k) 0 < length items
  CountsItemsBy-below = let few = count-lt-length laws key_of before items d i within w.count in
      subst (λ j. unwrap_or (value_at eq before j) 0 < length items) (sym next_is) few

-- each item has as its count how often it comes, which is 0 if it has none; the keys stand in the
-- order in which the items first come
pub record CountsItems {K : Type 0} (eq : K → K → Bool) (counts : List (K × ℕ)) (items : List K) :
    Type 0 where
  pub count : (q : K) → unwrap_or (value_at eq counts q) 0 ≡ count_by (eq q) items
  pub order : keys_of counts
      ≡ fold (λ seen item. if list_any (eq item) seen then seen else seen ++ item ∷ []) [] items

pub CountsItems-start : {K : Type 0} (eq : K → K → Bool) (counts : List (K × ℕ)) → counts ≡ [] → CountsItems eq counts []
CountsItems-start eq counts empty = grind arith

-- a step of the loop: the item k is counted
module _ {K : Type 0} {eq : K → K → Bool} (laws : IsEquivalence eq) {before : List (K × ℕ)}
    (items : List K) (i : ℕ) (w : CountsItems eq before (take i items)) (within : i < length items)
    {k : K} (item_is : k ≡ get_or items i k) where
  so_far : CountsItemsBy eq (λ item. item) before (take i items)
  so_far = record { count = w.count; order = w.order }

  pub CountsItems-counted : {after : List (K × ℕ)} {stored : K} → ActsAs eq before stored k
      → after ≡ set_or_push eq before stored (unwrap_or (value_at eq before k) 0 + 1) → CountsItems eq after (take (i + 1) items)
  CountsItems-counted acts written = let next = CountsItemsBy-counted laws items i so_far within k item_is refl acts written in
      record { count = next.count; order = next.order }

  -- its count so far is below the number of items
  pub CountsItems-below : unwrap_or (value_at eq before k) 0 < length items
  CountsItems-below = CountsItemsBy-below laws items i so_far within k item_is refl

-- a step of the loop in the form that `grind` applies by itself, with no clause named
pub CountsItems-set_or_push : {K : Type 0} {eq : K → K → Bool} → IsEquivalence eq
    → (before : List (K × ℕ)) (items : List K) (i : ℕ) (d : K) (n : ℕ)
    → CountsItems eq before (take i items) → i < length items
    → n ≡ unwrap_or (value_at eq before (get_or items i d)) 0 + 1
    → (set_or_push eq before (get_or items i d) n ≡ set_or_push eq before (get_or items i d) n)
    × CountsItems eq (set_or_push eq before (get_or items i d) n) (take (i + 1) items)
CountsItems-set_or_push laws before items i d n w within n_is = (
  refl,
  record {
    count = λ q. count_by-set_or_push laws (λ item. item) before items d q i within w.count n_is;
    order = keys_of-set_or_push_first_seen laws (λ item. item) before items d n i within w.order;
  },
)

-- each key has the count that it had at the start, and one more for each of the items that is the
-- same; a key that had none has none
pub record CountsKnown {K : Type 0} (eq : K → K → Bool) (start now : List (K × ℕ)) (items : List K) :
    Type 0 where
  pub counts : (q : K) → value_at eq now q
      ≡ option_map (λ n. n + count_by (eq q) items) (value_at eq start q)

pub CountsKnown-start : {K : Type 0} (eq : K → K → Bool) (pairs : List (K × ℕ)) → CountsKnown eq pairs pairs []
CountsKnown-start eq pairs = grind arith

-- a step of the loop, at the item k
module _ {K : Type 0} {eq : K → K → Bool} (laws : IsEquivalence eq) {start now : List (K × ℕ)}
    (items : List K) (i : ℕ) (w : CountsKnown eq start now (take i items))
    (within : i < length items) {k : K} (item_is : k ≡ get_or items i k) where
  same_item : (q : K) → eq q k ≡ eq q (get_or items i k)
  same_item q = ap (eq q) item_is

  pub CountsKnown-counted : {after : List (K × ℕ)} → Updates eq now after k (option_map (λ n. n + 1) (value_at eq now k))
      → CountsKnown eq start after (take (i + 1) items)
  CountsKnown-counted {after} written = record { counts = λ q. by_test q (eq k q) refl }
    where
      one_more : (c : ℕ) (o : Option ℕ)
          → option_map (λ n. n + 1) (option_map (λ m. m + c) o) ≡ option_map (λ m. m + (c + 1)) o
      one_more c None = refl
      one_more c (Some m) = let same : m + c + 1 ≡ m + (c + 1) = omega arith in ap (λ (n : ℕ). Some n) same

      by_test : (q : K) (b : Bool) → eq k q ≡ b
          → value_at eq after q
          ≡ option_map (λ m. m + count_by (eq q) (take (i + 1) items)) (value_at eq start q)
      by_test q true same =
          sym (value_at-same laws after k q same) ∙ written.here
          ∙ ap (option_map (λ n. n + 1)) (value_at-same laws now k q same ∙ w.counts q)
          ∙ one_more (count_by (eq q) (take i items)) (value_at eq start q)
          ∙ ap (λ c. option_map (λ m. m + c) (value_at eq start q))
          (sym (count_by_more_yes (eq q) items i k within (sym (same_item q) ∙ laws.symm q k ∙ same)))
      by_test q false apart =
          written.others q apart ∙ w.counts q
          ∙ ap (λ c. option_map (λ m. m + c) (value_at eq start q))
          (sym (count_by_more_no (eq q) items i k within (sym (same_item q) ∙ laws.symm q k ∙ apart)))

  -- a count grows no further than the number of items
  pub CountsKnown-fits : (limit n : ℕ) → ((q : K) (m : ℕ) → value_at eq start q ≡ Some m → m + length items < limit)
      → value_at eq now k ≡ Some n → n + 1 < limit
  CountsKnown-fits limit n fits own = grind (arith, count_by-le-length, length-take)

-- maps that count items, in the order in which these first come
pub ruleset counts = (CountsItems-start, CountsItems-counted, CountsItems-below)

-- counts of items that the map has
pub ruleset known_counts = (CountsKnown-start, CountsKnown-counted, CountsKnown-fits)
