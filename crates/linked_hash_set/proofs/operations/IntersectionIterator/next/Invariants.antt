use Rattle.std.proofs.Common.{◌≡◌, length}
use Rattle.linked_hash_set.specs.Operations.{intersection}
use Rattle.linked_hash_set.proofs.operations.IntersectionIterator.next.Given as goal

abbrev pub invariant-loop-item : goal.invariant-loop-item
invariant-loop-item g l =
    l.fn.self ≡ intersection g.T.PartialEq.eq l.self-inside.iter l.self-inside.other.now.items

abbrev pub decreases-loop-item : goal.decreases-loop-item
decreases-loop-item g l = length l.self-inside.iter
