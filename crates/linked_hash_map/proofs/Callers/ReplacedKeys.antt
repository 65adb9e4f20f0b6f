-- For callers: the pairs with a key in place of the stored key that is the same. Each key finds the
-- same value.
use Rattle.std.proofs.Common.{◌≡◌, Bool, List, [], ◌∷◌, map, length, option_map, arith, refl, ap}
use Rattle.std.{specs.Cmp.IsEquivalence, specs.Map.keys_of, proofs.lemmas.List.length-map}
use Rattle.linked_hash_map.specs.Pairs.{find, value_at, replaced, set_key}
-- of a key that is absent
pub use Rattle.linked_hash_map.proofs.pairs.Calls.{set_key-absent}

module _ {K V : Type 0} (eq : K → K → Bool) where
  pub keys_of-set_key : (pairs : List (K × V)) (k : K) → keys_of (set_key eq pairs k) ≡ map (replaced eq k) (keys_of pairs)
  keys_of-set_key [] k = refl
  keys_of-set_key (pair ∷ pairs) k = ap (λ ks. replaced eq k pair.0 ∷ ks) (keys_of-set_key pairs k)

  pub length-set_key : (pairs : List (K × V)) (k : K) → length (set_key eq pairs k) ≡ length pairs
  length-set_key pairs k = length-map pairs (λ pair. (replaced eq k pair.0, pair.1))

-- each key is the same as before
pub eq-replaced : {K : Type 0} {eq : K → K → Bool} → IsEquivalence eq → (k stored q : K) → eq q (replaced eq k stored) ≡ eq q stored
eq-replaced laws k stored q = grind arith

module _ {K V : Type 0} {eq : K → K → Bool} (laws : IsEquivalence eq) where
  pub find-set_key : (pairs : List (K × V)) (k q : K)
      → find eq (set_key eq pairs k) q ≡ option_map (λ (pair : K × V). (replaced eq k pair.0, pair.1)) (find eq pairs q)
  find-set_key [] k q = refl
  find-set_key (first ∷ pairs) k q = grind (arith, eq-replaced, find-set_key pairs k q)

  pub value_at-set_key : (pairs : List (K × V)) (k q : K) → value_at eq (set_key eq pairs k) q ≡ value_at eq pairs q
  value_at-set_key pairs k q = grind (arith, find-set_key)
