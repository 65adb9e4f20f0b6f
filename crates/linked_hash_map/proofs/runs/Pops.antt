-- What a pop takes out: the key of the first pair, or of the last.
use Rattle.linked_hash_map.proofs.Names.{Bool, List, None, Some, drop, length, slice_get, sym, take, ◌-◌, ◌∙◌, ◌≡◌, without, Updates}
use Rattle.linked_hash_map.{proofs.Names.IsEquivalence, proofs.Names.IsDistinct, proofs.Names.keys_of, proofs.Callers.Lookups.drop-first}
use Rattle.linked_hash_map.{proofs.Callers.Updates.Updates-without, proofs.pairs.Indexes.without-own, proofs.runs.Effects.remove-last}

module _ {K V : Type 0} {eq : K → K → Bool} (laws : IsEquivalence eq) (before after : List (K × V))
    (pair : K × V) (distinct : IsDistinct eq (keys_of before)) where
  pub Updates-drop_first : slice_get before 0 ≡ Some pair → after ≡ drop 1 before → Updates eq before after pair.0 None
  Updates-drop_first there is = Updates-without laws before after pair.0 (is ∙ drop-first laws before pair distinct there)

  take-but_last : slice_get before (length before - 1) ≡ Some pair → take (length before - 1) before ≡ without eq before pair.0
  take-but_last there = sym (remove-last before) ∙ sym (without-own laws before distinct (length before - 1) pair there)

  pub Updates-take_but_last : slice_get before (length before - 1) ≡ Some pair
      → after ≡ take (length before - 1) before → Updates eq before after pair.0 None
  Updates-take_but_last there is = Updates-without laws before after pair.0 (is ∙ take-but_last there)
