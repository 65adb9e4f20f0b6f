use Rattle.linked_hash_map.proofs.Callers.Prelude.{◌≡◌, map, deref}
use Rattle.uses.proofs.loops.keys_in_order.Given as goal

abbrev pub invariant-loop-key : goal.invariant-loop-key
invariant-loop-key g l = l.keys.items ≡ map deref l.yielded
