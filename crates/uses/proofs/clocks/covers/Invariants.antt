use Rattle.std.proofs.Common.{◌≤◌, max}
use Rattle.uses.specs.Counting.{known}
use Rattle.uses.proofs.clocks.covers.Given as goal

abbrev pub invariant-loop-node : goal.invariant-loop-node
invariant-loop-node g l = let eq = g.K.PartialEq.eq in (q : g.row.K.Denot)
    → known eq l.other.pairs q ≤ max (known eq l.clock.pairs q) (known eq l.node-iterator q)
