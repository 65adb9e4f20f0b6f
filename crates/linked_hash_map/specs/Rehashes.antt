-- The nodes that commands rehash, by the lengths and capacities that their replies say.
use Rattle.std.specs.Prelude.{ℕ, ◌-◌, List, [], ◌∷◌}
use Rattle.linked_hash_map.specs.Counts.{rechained_raised, rechained_fitted, rechained_each}
use Rattle.linked_hash_map.specs.declared.replay.Command.{Command}
use Rattle.linked_hash_map.specs.declared.replay.Command.TheVariants.{Reserve, Shrink}
use Rattle.linked_hash_map.specs.declared.replay.Reply.{Reply}

module _ {K V : Type 0} where
  -- how many nodes rehashes have moved after a command on `len` pairs, after which the capacity,
  -- which was c, is d
  abbrev pub rechained_after : Command K V → ℕ → ℕ → ℕ → ℕ → ℕ
  rechained_after (Reserve additional) rechained len c d = rechained_raised rechained len c d
  rechained_after Shrink rechained len c d = rechained_fitted rechained d c
  rechained_after _ rechained len c d = rechained_each rechained c (d - c)

  -- and after commands in turn, on `len` pairs and a capacity c at first
  abbrev pub rechained_after_all : ℕ → ℕ → ℕ → List (Command K V) → List (Reply K V) → ℕ
  rechained_after_all rechained len c [] replies = rechained
  rechained_after_all rechained len c (command ∷ commands) [] = rechained
  rechained_after_all rechained len c (command ∷ commands) (reply ∷ replies) =
      rechained_after_all (rechained_after command rechained len c reply.capacity) reply.len
      reply.capacity commands replies
