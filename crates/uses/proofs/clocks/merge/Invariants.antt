use Rattle.std.proofs.Common.{max, unwrap_or}
use Rattle.linked_hash_map.proofs.Callers.Merging.{IsMerging}
use Rattle.uses.proofs.clocks.merge.Given as goal

abbrev pub invariant-loop-node : goal.invariant-loop-node
invariant-loop-node g l = IsMerging g.K.PartialEq.eq (λ known count. max (unwrap_or known 0) count)
    l.fn.clock.pairs l.other.pairs l.clock.pairs l.node-iterator
