-- For callers: the keys after a removal or a move, from the clause of the call, at numbers.
use Rattle.std.proofs.Common.{◌≡◌, ℕ, not, List, ◌∷◌, filter, true, is_some, nat_eq, ap, ◌∙◌}
use Rattle.std.specs.Map.{keys_of}
use Rattle.linked_hash_map.specs.Pairs.{find, without, to_front}
use Rattle.linked_hash_map.proofs.Callers.{Keys.keys_of-without, Rules.keys_of-to_front_number}

module _ {V : Type 0} (pairs after : List (ℕ × V)) (k : ℕ) where
  -- the keys after a removal
  pub keys_of_removed : after ≡ without nat_eq pairs k → keys_of after ≡ filter (λ j. not (nat_eq k j)) (keys_of pairs)
  keys_of_removed is = ap keys_of is ∙ keys_of-without nat_eq pairs k

  -- the keys after a move of a present one to the front
  pub keys_of_moved : after ≡ to_front nat_eq pairs k → is_some (find nat_eq pairs k) ≡ true
      → keys_of after ≡ k ∷ filter (λ j. not (nat_eq k j)) (keys_of pairs)
  keys_of_moved is there = ap keys_of is ∙ (keys_of-to_front_number pairs k there).1
