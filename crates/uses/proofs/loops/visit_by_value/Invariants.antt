use Rattle.linked_hash_map.proofs.Callers.Prelude.{◌≡◌, ◌++◌, length, keys_of, to_visit}
use Rattle.uses.proofs.loops.visit_by_value.Given as goal

abbrev pub invariant-loop-entry : goal.invariant-loop-entry
invariant-loop-entry l = l.visited.items ++ to_visit l.entries ≡ keys_of l.fn.map.pairs

abbrev pub decreases-loop-entry : goal.decreases-loop-entry
decreases-loop-entry l = length (to_visit l.entries)
