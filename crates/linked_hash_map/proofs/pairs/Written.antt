-- The pairs with a value written in that of a key.
use Rattle.linked_hash_map.proofs.Names.{Bool, List, [], ap₂, arith, cond, false, map, refl, true, ◌∷◌, ◌≡◌, LinkedMap, IsValid, length-map}
use Rattle.linked_hash_map.proofs.Names.{keys_of}

-- the keys stay
keys_of-written : {K V : Type 0} (is_key : K → Bool) (v : V) (pairs : List (K × V))
    → keys_of (map (λ pair. cond (is_key pair.0) (pair.0, v) pair) pairs) ≡ keys_of pairs
keys_of-written is_key v [] = refl
keys_of-written is_key v (pair ∷ pairs) = ap₂ (λ j ks. j ∷ ks) (by_test (is_key pair.0)) (keys_of-written is_key v pairs)
  where
    by_test : (b : Bool) → (cond b (pair.0, v) pair).0 ≡ pair.0
    by_test true = refl
    by_test false = refl

-- so the map stays valid
pub IsValid-set_value : {K V S : Type 0} {eq : K → K → Bool} {m : LinkedMap K V S} → IsValid eq m → (is_key : K → Bool) (v : V)
    → IsValid eq (record m { pairs = map (λ pair. cond (is_key pair.0) (pair.0, v) pair) m.pairs })
IsValid-set_value valid is_key v = grind (arith, length-map, keys_of-written)
