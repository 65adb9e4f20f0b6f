use Rattle.std.proofs.Common.{arith}
use Rattle.linked_hash_map.proofs.Callers.Merging.{value_at_next}
use Rattle.uses.proofs.clocks.covers.Goals as goal

pub loop-node-preserved : goal.loop-node-preserved
loop-node-preserved g c = λ q. let was = c.loop-node.invariant q in
    let next = value_at_next g.met.K.Eq.laws c.args.clock.now.pairs q c.in-Some.ensures.steps in
    grind (arith, was, next)
