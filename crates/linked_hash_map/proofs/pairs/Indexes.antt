-- Calls by key on a list of pairs with different keys, at the index of the key.
use Rattle.std.proofs.Common.{◌≡◌, ℕ, zero, suc, ◌<◌, Bool, true, false, cond, not, List, [], ◌∷◌, ◌++◌, length, remove, slice_get, Some}
use Rattle.std.proofs.Common.{None, is_some, option_to_list, option_map, refl, sym, ap, ap₂, ◌∙◌, subst, true≢false, arith}
use Rattle.std.proofs.{lemmas.Map.Keys.IsDistinct-head, lemmas.Map.Keys.IsDistinct-tail, Math.Nat.le_of_suc-le-suc}
use Rattle.std.specs.List.{list_any, IsDistinct, AllByRecursion}
use Rattle.std.specs.{Prelude.slice_set, Map.keys_of, Map.lookup_entry, Cmp.IsEquivalence}
use Rattle.lhm_ring.{proofs.lists.Options.Some-injective, specs.Positions.to_back_at, specs.Positions.to_front_at}
use Rattle.linked_hash_map.specs.Pairs.{key_or, find, value_at, without, to_back, to_back_as_is, to_front, set_key, set_value}
use Rattle.linked_hash_map.specs.Indexes.{IsIndex, pair_at, set_value_at}
use Rattle.linked_hash_map.proofs.pairs.Calls.{lookup_entry-none, filter-none, set_key-absent, set_value-none}
use Rattle.linked_hash_map.proofs.{log.LiveKeys.same_test, lists.Distinct.none_from_all}

-- an index that has something lies within
pub slice_get-within : {X : Type 0} (xs : List X) (i : ℕ) (x : X) → slice_get xs i ≡ Some x → i < length xs
slice_get-within [] i x h = absurd (true≢false (sym (ap is_some h)))
slice_get-within (y ∷ xs) zero x h = omega arith
slice_get-within (y ∷ xs) (suc i) x h = let rest = slice_get-within xs i x h in omega arith

-- the pair at an index
module _ {K V : Type 0} where
  pub slice_get-pair_at : (pairs : List (K × V)) (index : ℕ) (within : index < length pairs)
      → slice_get pairs index ≡ Some (pair_at pairs index within)
  slice_get-pair_at [] index within = absurd (omega arith)
  slice_get-pair_at (pair ∷ pairs) zero within = refl
  slice_get-pair_at (pair ∷ pairs) (suc index) within = slice_get-pair_at pairs index (le_of_suc-le-suc within)

  pub slice_get-set_value_at : (pairs : List (K × V)) (index : ℕ) (v : V) (pair : K × V) → slice_get pairs index ≡ Some pair
      → slice_get (set_value_at pairs index v) index ≡ Some (pair.0, v)
  slice_get-set_value_at [] index v pair there = absurd (true≢false (sym (ap is_some there)))
  slice_get-set_value_at (first ∷ pairs) zero v pair there = ap (λ p. Some (p.0, v)) (Some-injective _ _ there)
  slice_get-set_value_at (first ∷ pairs) (suc index) v pair there = slice_get-set_value_at pairs index v pair there

  -- a key that is at an index is found
  pub is_some-at : (eq : K → K → Bool) (pairs : List (K × V)) (index : ℕ) (k : K) (pair : K × V)
      → slice_get pairs index ≡ Some pair → eq k pair.0 ≡ true → is_some (find eq pairs k) ≡ true
  is_some-at eq [] index k pair there same = absurd (true≢false (sym (ap is_some there)))
  is_some-at eq (first ∷ pairs) zero k pair there same = grind (arith, Some-injective)
  is_some-at eq (first ∷ pairs) (suc index) k pair there same = by_test (is_some-at eq pairs index k pair there same) (eq k first.0)
    where
      by_test : is_some (find eq pairs k) ≡ true → (b : Bool) → is_some (cond b (Some first) (find eq pairs k)) ≡ true
      by_test rest true = refl
      by_test rest false = rest

pub set_value_at-append : {K V : Type 0} (xs : List (K × V)) (x : K × V) (ys : List (K × V)) (w : V)
    → set_value_at (xs ++ x ∷ ys) (length xs) w ≡ xs ++ (x.0, w) ∷ ys
set_value_at-append [] x ys w = refl
set_value_at-append (y ∷ xs) x ys w = ap (λ l. y ∷ l) (set_value_at-append xs x ys w)

all_at : {K V : Type 0} (P : K → Type 0) (pairs : List (K × V)) (i : ℕ) (pair : K × V)
    → slice_get pairs i ≡ Some pair → AllByRecursion P (keys_of pairs) → P pair.0
all_at P [] i pair h all = absurd (true≢false (sym (ap is_some h)))
all_at P (first ∷ pairs) zero pair h all = let same : first ≡ pair = cc in subst P (ap (λ p. p.0) same) all.0
all_at P (first ∷ pairs) (suc i) pair h all = all_at P pairs i pair h all.1

module _ {K V : Type 0} {eq : K → K → Bool} (laws : IsEquivalence eq) (k : K) where
  -- if the first pair is that of the key, the others are not
  pub others_differ : (first : K × V) (pairs : List (K × V)) → IsDistinct eq (keys_of (first ∷ pairs))
      → eq k first.0 ≡ true → lookup_entry (eq k) pairs ≡ None
  others_differ first pairs distinct same = lookup_entry-none (eq k) pairs
      (ap (λ test. list_any test (keys_of pairs)) (same_test laws k first.0 same)
      ∙ none_from_all (eq first.0) (keys_of pairs)
      (IsDistinct-head eq first.0 (keys_of pairs) distinct))

  -- if a later pair is that of the key, the first is not
  pub first_differs : (first : K × V) (pairs : List (K × V)) (i : ℕ) (pair : K × V) → IsDistinct eq (keys_of (first ∷ pairs))
      → slice_get pairs i ≡ Some pair → eq k pair.0 ≡ true → eq k first.0 ≡ false
  first_differs first pairs i pair distinct there same =
      laws.congr k pair.0 first.0 same ∙ laws.symm pair.0 first.0
      ∙ all_at (λ y. eq first.0 y ≡ false) pairs i pair there (IsDistinct-head eq first.0 (keys_of pairs) distinct)

  find_at : (pairs : List (K × V)) (i : ℕ) (pair : K × V) → IsDistinct eq (keys_of pairs)
      → slice_get pairs i ≡ Some pair → eq k pair.0 ≡ true → find eq pairs k ≡ Some pair
  find_at [] i pair distinct there same = absurd (true≢false (sym (ap is_some there)))
  find_at (first ∷ pairs) zero pair distinct there same = grind arith
  find_at (first ∷ pairs) (suc i) pair distinct there same =
      grind (arith, first_differs, IsDistinct-tail, find_at pairs i pair (IsDistinct-tail eq first.0 (keys_of pairs) distinct) there same)

  pub without_at : (pairs : List (K × V)) (i : ℕ) (pair : K × V) → IsDistinct eq (keys_of pairs)
      → slice_get pairs i ≡ Some pair → eq k pair.0 ≡ true → without eq pairs k ≡ remove pairs i
  without_at [] i pair distinct there same = absurd (true≢false (sym (ap is_some there)))
  without_at (first ∷ pairs) zero pair distinct there same =
      let first_is : first ≡ pair = cc in
      let passes : eq k first.0 ≡ true = ap (λ p. eq k p.0) first_is ∙ same in
      ap (λ b. cond (not b) (first ∷ without eq pairs k) (without eq pairs k)) passes
      ∙ filter-none (eq k) pairs (others_differ first pairs distinct passes)
  without_at (first ∷ pairs) (suc i) pair distinct there same =
      ap (λ b. cond (not b) (first ∷ without eq pairs k) (without eq pairs k)) (first_differs first pairs i pair distinct there same)
      ∙ ap (λ ps. first ∷ ps) (without_at pairs i pair (IsDistinct-tail eq first.0 (keys_of pairs) distinct) there same)

  set_value_by_index : (pairs : List (K × V)) (i : ℕ) (pair : K × V) (v : V) → IsDistinct eq (keys_of pairs) → slice_get pairs i ≡ Some pair
      → eq k pair.0 ≡ true → set_value eq pairs k v ≡ set_value_at pairs i v
  set_value_by_index [] i pair v distinct there same = absurd (true≢false (sym (ap is_some there)))
  set_value_by_index (first ∷ pairs) zero pair v distinct there same = grind (arith, set_value-none, others_differ)
  set_value_by_index (first ∷ pairs) (suc i) pair v distinct there same =
      ap₂ (λ b ps. cond b (first.0, v) first ∷ ps) (first_differs first pairs i pair distinct there same)
      (set_value_by_index pairs i pair v (IsDistinct-tail eq first.0 (keys_of pairs) distinct) there same)

  pub set_key_by_index : (pairs : List (K × V)) (i : ℕ) (pair : K × V) → IsDistinct eq (keys_of pairs) → slice_get pairs i ≡ Some pair
      → eq k pair.0 ≡ true → set_key eq pairs k ≡ slice_set pairs i (k, pair.1)
  set_key_by_index [] i pair distinct there same = absurd (true≢false (sym (ap is_some there)))
  set_key_by_index (first ∷ pairs) zero pair distinct there same = grind (arith, set_key-absent, others_differ)
  set_key_by_index (first ∷ pairs) (suc i) pair distinct there same =
      ap₂ (λ b ps. (cond b k first.0, first.1) ∷ ps) (first_differs first pairs i pair distinct there same)
      (set_key_by_index pairs i pair (IsDistinct-tail eq first.0 (keys_of pairs) distinct) there same)

-- setting the value that a key has changes nothing
module _ {K V : Type 0} {eq : K → K → Bool} (laws : IsEquivalence eq) where
  pub set_value-own : (pairs : List (K × V)) (k : K) (v : V) → IsDistinct eq (keys_of pairs)
      → value_at eq pairs k ≡ Some v → set_value eq pairs k v ≡ pairs
  set_value-own [] k v distinct h = refl
  set_value-own (first ∷ pairs) k v distinct h =
      by_test (set_value-own pairs k v (IsDistinct-tail eq first.0 (keys_of pairs) distinct))
      (eq k first.0) refl h
    where
      others : eq k first.0 ≡ true → set_value eq pairs k v ≡ pairs
      others same = set_value-none eq pairs k v (others_differ laws k first pairs distinct same)

      by_test : (value_at eq pairs k ≡ Some v → set_value eq pairs k v ≡ pairs) → (b : Bool)
          → eq k first.0 ≡ b
          → option_map (λ pair. pair.1) (cond b (Some first) (lookup_entry (eq k) pairs)) ≡ Some v
          → cond b (first.0, v) first ∷ set_value eq pairs k v ≡ first ∷ pairs
      by_test rest true same h = let same_value : v ≡ first.1 = cc in ap₂ (λ w ps. (first.0, w) ∷ ps) same_value (others same)
      by_test rest false same h = ap (λ ps. first ∷ ps) (rest h)

-- a pair at an index is the one that its own key finds
module _ {K V : Type 0} {eq : K → K → Bool} (laws : IsEquivalence eq) (pairs : List (K × V))
    (distinct : IsDistinct eq (keys_of pairs)) (i : ℕ) (pair : K × V)
    (there : slice_get pairs i ≡ Some pair) where
  pub find-own : find eq pairs pair.0 ≡ Some pair
  find-own = find_at laws pair.0 pairs i pair distinct there (laws.refl pair.0)

  pub without-own : without eq pairs pair.0 ≡ remove pairs i
  without-own = without_at laws pair.0 pairs i pair distinct there (laws.refl pair.0)

  pub set_value-own_at : (v : V) → set_value eq pairs pair.0 v ≡ set_value_at pairs i v
  set_value-own_at v = set_value_by_index laws pair.0 pairs i pair v distinct there (laws.refl pair.0)

-- the pair at the index of a key
module _ {K V : Type 0} {eq : K → K → Bool} (laws : IsEquivalence eq) {pairs : List (K × V)}
    (distinct : IsDistinct eq (keys_of pairs)) {k : K} {i : ℕ} (index : IsIndex eq pairs k i) where
  pub without-index : without eq pairs k ≡ remove pairs i
  without-index = without_at laws k pairs i index.pair distinct index.there index.same

  pub set_value-index : (v : V) → set_value eq pairs k v ≡ set_value_at pairs i v
  set_value-index v = set_value_by_index laws k pairs i index.pair v distinct index.there index.same

  -- with the pair that is there
  module _ {pair : K × V} (there : slice_get pairs i ≡ Some pair) where
    pub find-index : find eq pairs k ≡ Some pair
    find-index = find_at laws k pairs i index.pair distinct index.there index.same ∙ sym index.there ∙ there

    pub value_at-index : Some pair.1 ≡ value_at eq pairs k
    value_at-index = sym (ap (option_map (λ p. p.1)) find-index)

    pub to_back-index : (v : V) → to_back eq pairs k v ≡ remove pairs i ++ (pair.0, v) ∷ []
    to_back-index v = ap₂ (λ ps o. ps ++ (key_or k o, v) ∷ []) without-index find-index

  pub to_back_as_is-index : to_back_as_is eq pairs k ≡ to_back_at pairs i
  to_back_as_is-index = ap₂ (λ ps o. ps ++ option_to_list o) without-index (find-index index.there ∙ sym index.there)

  pub to_front-index : to_front eq pairs k ≡ to_front_at pairs i
  to_front-index = ap₂ (λ ps o. option_to_list o ++ ps) without-index (find-index index.there ∙ sym index.there)

  pub value_at-slice_get : value_at eq pairs k ≡ option_map (λ p. p.1) (slice_get pairs i)
  value_at-slice_get = ap (option_map (λ p. p.1)) (find-index index.there ∙ sym index.there)

  -- what a search returns tells whether the key has a pair
  pub is_some-index : is_some (find eq pairs k) ≡ true
  is_some-index = ap is_some (find-index index.there)

-- values do not matter to the keys
pub keys_of-set_value_at : {K V : Type 0} (pairs : List (K × V)) (i : ℕ) (v : V) → keys_of (set_value_at pairs i v) ≡ keys_of pairs
keys_of-set_value_at [] i v = refl
keys_of-set_value_at (pair ∷ pairs) zero v = refl
keys_of-set_value_at (pair ∷ pairs) (suc i) v = ap (λ ks. pair.0 ∷ ks) (keys_of-set_value_at pairs i v)

-- the last index
pub set_value_at-last : {K V : Type 0} (pairs : List (K × V)) (k : K) (v w : V)
    → set_value_at (pairs ++ (k, v) ∷ []) (length pairs) w ≡ pairs ++ (k, w) ∷ []
set_value_at-last [] k v w = refl
set_value_at-last (first ∷ pairs) k v w = ap (λ ps. first ∷ ps) (set_value_at-last pairs k v w)

pub slice_get-last : {X : Type 0} (xs : List X) (x : X) → slice_get (xs ++ x ∷ []) (length xs) ≡ Some x
slice_get-last [] x = refl
slice_get-last (y ∷ xs) x = slice_get-last xs x

-- a pair that was put at the back of some pairs
module _ {K V : Type 0} (rest pairs : List (K × V)) (pair : K × V) (last : ℕ)
    (pushed : pairs ≡ rest ++ pair ∷ []) (at_end : last ≡ length rest) where
  pub set_value_at-pushed : (v : V) → set_value_at pairs last v ≡ rest ++ (pair.0, v) ∷ []
  set_value_at-pushed v = ap₂ (λ ps i. set_value_at ps i v) pushed at_end ∙ set_value_at-last rest pair.0 pair.1 v

  pub slice_get-pushed : slice_get pairs last ≡ Some pair
  slice_get-pushed = ap₂ (λ ps i. slice_get ps i) pushed at_end ∙ slice_get-last rest pair
