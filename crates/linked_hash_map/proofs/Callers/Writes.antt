-- For callers: values that are written, and calls one after another by the same key.
use Rattle.std.proofs.Common.{◌≡◌, ℕ, nat_eq, Bool, true, false, cond, List, [], ◌∷◌, ◌++◌, append-nil, Option, Some, None}
use Rattle.std.proofs.Common.{is_some, option_map, unwrap_or, refl, ap, ap₂, ◌∙◌, arith}
use Rattle.std.proofs.lemmas.List.Elements.{filter-append}
use Rattle.std.specs.Map.Calls.{MayWrite, ModifiesValue}
use Rattle.std.specs.{Option.IsSome, Borrow.MutBor, Fn.Once, List.IsDistinct, Map.keys_of, Cmp.IsEquivalence, Cmp.nat_eq_equiv}
use Rattle.linked_hash_map.specs.Pairs.{ActsAs, find, value_at, without, set_value, set_or_push, set_if_some, put}
use Rattle.linked_hash_map.specs.declared.map.Mode.{Mode}
use Rattle.linked_hash_map.proofs.Callers.Keys.{IsSome-find, put-absent, set_or_push-absent, set_or_push-present, without-absent}
use Rattle.linked_hash_map.proofs.{Callers.Keys.find-absent, pairs.Calls.set_value-none, pairs.Calls.is_some-value_at}
-- a value that is set as it was changes nothing
pub use Rattle.linked_hash_map.proofs.pairs.Indexes.{set_value-own}

-- if a call leaves `change v` for a value v, `and_modify` changes the value of a key so
pub modified : {F X R : Type 0} {g : Once F (MutBor X × Unit {0}) (R × (MutBor X × Unit {0}))} {f : F} (change : X → X) (old new : Option X)
    → ModifiesValue g f old new → ((v w : X) → MayWrite g f v w → w ≡ change v) → new ≡ option_map change old
modified change old new called leaves = grind arith

-- nor does one that is written so
module _ {K V : Type 0} {eq : K → K → Bool} (laws : IsEquivalence eq) (pairs : List (K × V)) (k : K)
    (v : V) (distinct : IsDistinct eq (keys_of pairs)) where
  pub set_or_push-own : value_at eq pairs k ≡ Some v → set_or_push eq pairs k v ≡ pairs
  set_or_push-own own = set_or_push-present eq pairs k v (IsSome-find eq pairs k v own) ∙ set_value-own laws pairs k v distinct own

-- nor does `or_insert` of a key that is there, by an entry that acts as the key does
module _ {K V : Type 0} {eq : K → K → Bool} (laws : IsEquivalence eq) where
  own_or : (found : Option (K × V)) (v w : V) → is_some found ≡ true → w ≡ unwrap_or (option_map (λ pair. pair.1) found) v
      → option_map (λ pair. pair.1) found ≡ Some w
  own_or found v w there is = grind arith

  pub set_or_push-present_own : (contents pairs : List (K × V)) (stored k : K) (v w : V) (o : Option V) → ActsAs eq pairs stored k
      → contents ≡ pairs → w ≡ unwrap_or o v → o ≡ value_at eq pairs k → IsSome (find eq pairs k) → IsDistinct eq (keys_of pairs)
      → set_or_push eq contents stored w ≡ pairs
  set_or_push-present_own contents pairs stored k v w o acts same is held there distinct = grind (arith, set_or_push-own, own_or)

  -- and of one that is not there: it stands behind the others
  pub set_or_push-if_absent : (contents pairs : List (K × V)) (stored k : K) (v w : V) (o : Option V) → ActsAs eq pairs stored k
      → contents ≡ pairs → w ≡ unwrap_or o v → o ≡ value_at eq pairs k → IsDistinct eq (keys_of pairs)
      → set_or_push eq contents stored w ≡ cond (is_some (find eq pairs k)) pairs (pairs ++ (k, v) ∷ [])
  set_or_push-if_absent contents pairs stored k v w o acts same is held distinct = by_test (is_some (find eq pairs k)) refl
    where
      by_test : (b : Bool) → is_some (find eq pairs k) ≡ b → set_or_push eq contents stored w ≡ cond b pairs (pairs ++ (k, v) ∷ [])
      by_test true there = set_or_push-present_own contents pairs stored k v w o acts same is held there distinct
      by_test false absent = grind (arith, acts.sets_or_pushes w, set_or_push-absent, find-absent)

module _ {K V : Type 0} (eq : K → K → Bool) where
  -- the later of two writes counts
  pub set_value-set_value : (pairs : List (K × V)) (k : K) (w v : V) → set_value eq (set_value eq pairs k w) k v ≡ set_value eq pairs k v
  set_value-set_value [] k w v = refl
  set_value-set_value (pair ∷ pairs) k w v = ap₂ (λ p ps. p ∷ ps) (by_test (eq k pair.0) refl) (set_value-set_value pairs k w v)
    where
      by_test : (b : Bool) → eq k pair.0 ≡ b
          → cond (eq k (cond b (pair.0, w) pair).0) ((cond b (pair.0, w) pair).0, v)
          (cond b (pair.0, w) pair) ≡ cond b (pair.0, v) pair
      by_test true h = ap (λ b. cond b (pair.0, v) (pair.0, w)) h
      by_test false h = ap (λ b. cond b (pair.0, v) pair) h

  found-set_value : (pairs : List (K × V)) (k : K) (w : V) → is_some (find eq (set_value eq pairs k w) k) ≡ is_some (find eq pairs k)
  found-set_value [] k w = refl
  found-set_value (pair ∷ pairs) k w = by_test (eq k pair.0) refl (found-set_value pairs k w)
    where
      by_test : (b : Bool) → eq k pair.0 ≡ b
          → is_some (find eq (set_value eq pairs k w) k) ≡ is_some (find eq pairs k)
          → is_some (find eq (cond b (pair.0, w) pair ∷ set_value eq pairs k w) k)
          ≡ is_some (cond b (Some pair) (find eq pairs k))
      by_test true h rest = ap (λ b. is_some (cond b (Some (pair.0, w)) (find eq (set_value eq pairs k w) k))) h
      by_test false h rest = ap (λ b. is_some (cond b (Some pair) (find eq (set_value eq pairs k w) k))) h ∙ rest

  -- a write after `and_modify`, as by entry(k).and_modify(f).or_insert(v), counts alone
  pub set_or_push-set_if_some : (pairs : List (K × V)) (k : K) (o : Option V) (v : V)
      → set_or_push eq (set_if_some eq pairs k o) k v ≡ set_or_push eq pairs k v
  set_or_push-set_if_some pairs k o v =
      grind (arith, set_or_push-present, found-set_value, set_value-set_value, find-absent, set_value-none)

-- an insertion taken back: a new key is removed, and a key that was there gets its old value
module _ {K V : Type 0} {eq : K → K → Bool} (laws : IsEquivalence eq) where
  pub without-put : (mode : Mode) (pairs : List (K × V)) (k : K) (v : V)
      → value_at eq pairs k ≡ None → without eq (put eq mode pairs k v) k ≡ pairs
  without-put mode pairs k v missing = grind (arith, find-absent, is_some-value_at, put-absent, filter-append, without-absent, append-nil)

  pub set_value-set_or_push : (pairs : List (K × V)) (k : K) (w v : V) → IsDistinct eq (keys_of pairs) → value_at eq pairs k ≡ Some v
      → set_value eq (set_or_push eq pairs k w) k v ≡ pairs
  set_value-set_or_push pairs k w v distinct own =
      ap (λ ps. set_value eq ps k v) (set_or_push-present eq pairs k w (IsSome-find eq pairs k v own))
      ∙ set_value-set_value eq pairs k w v ∙ set_value-own laws pairs k v distinct own

-- what `or_insert` leaves if the key is there
pub ruleset present_own = (set_or_push-present_own)

-- what it leaves, whether the key is there or not, at numbers
pub set_or_push-if_absent_number : {V : Type 0} (contents pairs : List (ℕ × V)) (stored k : ℕ) (v w : V) (o : Option V)
    → ActsAs nat_eq pairs stored k → contents ≡ pairs → w ≡ unwrap_or o v → o ≡ value_at nat_eq pairs k → IsDistinct nat_eq (keys_of pairs)
    → set_or_push nat_eq contents stored w ≡ cond (is_some (find nat_eq pairs k)) pairs (pairs ++ (k, v) ∷ [])
set_or_push-if_absent_number = set_or_push-if_absent nat_eq_equiv

pub ruleset if_absent = (set_or_push-if_absent_number)
