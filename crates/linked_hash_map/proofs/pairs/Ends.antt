-- The value of the first pair, or of the last, is set.
use Rattle.linked_hash_map.proofs.Names.{Bool, IfSome, List, Some, [], ap, arith, length, option_map, option_to_list, refl, slice_get}
use Rattle.linked_hash_map.proofs.Names.{subst, sym, take, ℕ, ◌++◌, ◌-◌, ◌∙◌, ◌∷◌, ◌≡◌, IsIndex, set_value_at, LinkedMap, first, last}
use Rattle.linked_hash_map.proofs.Names.{set_first, set_last, Updates, IsValid, length-map, IsEquivalence, IsDistinct, keys_of}
use Rattle.linked_hash_map.proofs.Callers.Updates.{Updates-set_value}
use Rattle.linked_hash_map.proofs.pairs.Indexes.{is_some-index, keys_of-set_value_at, set_value-index}

module _ {K V : Type 0} where
  pub set_value_at-first : (pairs : List (K × V)) (v : V) → set_value_at pairs 0 v ≡ set_first pairs v
  set_value_at-first pairs v = grind arith

  set_value_at-length : (pair : K × V) (pairs : List (K × V)) (v : V) → set_value_at (pair ∷ pairs) (length pairs) v
      ≡ take (length pairs) (pair ∷ pairs) ++ option_to_list (option_map (λ p. (p.0, v)) (slice_get (pair ∷ pairs) (length pairs)))
  set_value_at-length pair [] v = refl
  set_value_at-length pair (next ∷ pairs) v = ap (λ ps. pair ∷ ps) (set_value_at-length next pairs v)

  pub set_value_at-last : (pairs : List (K × V)) (v : V) → set_value_at pairs (length pairs - 1) v ≡ set_last pairs v
  set_value_at-last [] v = refl
  set_value_at-last (pair ∷ pairs) v =
      subst (λ i. set_value_at (pair ∷ pairs) i v
      ≡ take i (pair ∷ pairs) ++ option_to_list (option_map (λ p. (p.0, v)) (slice_get (pair ∷ pairs) i)))
      (omega arith) (set_value_at-length pair pairs v)

  keys_of-set_first : (pairs : List (K × V)) (v : V) → keys_of (set_first pairs v) ≡ keys_of pairs
  keys_of-set_first pairs v = ap keys_of (sym (set_value_at-first pairs v)) ∙ keys_of-set_value_at pairs 0 v

  keys_of-set_last : (pairs : List (K × V)) (v : V) → keys_of (set_last pairs v) ≡ keys_of pairs
  keys_of-set_last pairs v = ap keys_of (sym (set_value_at-last pairs v)) ∙ keys_of-set_value_at pairs (length pairs - 1) v

-- a map with other values is valid
module _ {K V S : Type 0} {eq : K → K → Bool} {m : LinkedMap K V S} (valid : IsValid eq m) where
  IsValid-keys : (pairs : List (K × V)) → keys_of pairs ≡ keys_of m.pairs → IsValid eq (record m { pairs = pairs })
  IsValid-keys pairs same = grind (arith, length-map)

  pub IsValid-set_first : (v : V) → IsValid eq (record m { pairs = set_first m.pairs v })
  IsValid-set_first v = IsValid-keys (set_first m.pairs v) (keys_of-set_first m.pairs v)

  pub IsValid-set_last : (v : V) → IsValid eq (record m { pairs = set_last m.pairs v })
  IsValid-set_last v = IsValid-keys (set_last m.pairs v) (keys_of-set_last m.pairs v)

-- its key has the value, and other keys have what they had
module _ {K V : Type 0} {eq : K → K → Bool} (laws : IsEquivalence eq) (pairs : List (K × V))
    (distinct : IsDistinct eq (keys_of pairs)) (v : V) where
  Updates-at : (i : ℕ) (after : List (K × V)) (pair : K × V) → slice_get pairs i ≡ Some pair → set_value_at pairs i v ≡ after
      → Updates eq pairs after pair.0 (Some v)
  Updates-at i after pair there is =
      let index : IsIndex eq pairs pair.0 i = record { pair = pair; there = there; same = laws.refl pair.0 } in
      Updates-set_value laws pairs after pair.0 (is_some-index laws distinct index) v
      (sym is ∙ sym (set_value-index laws distinct index v))

  pub Updates-set_first : IfSome (first pairs) (λ pair. Updates eq pairs (set_first pairs v) pair.0 (Some v))
  Updates-set_first = grind (arith, Updates-at, set_value_at-first)

  pub Updates-set_last : IfSome (last pairs) (λ pair. Updates eq pairs (set_last pairs v) pair.0 (Some v))
  Updates-set_last = grind (arith, Updates-at, set_value_at-last)
