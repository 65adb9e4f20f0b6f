use Rattle.std.proofs.Common.{rules, arith}
use Rattle.linked_hash_map.proofs.Callers.Merging.{IsMerging-merged}
use Rattle.uses.proofs.clocks.merge.Goals as goal

pub loop-node-preserved : goal.loop-node-preserved
loop-node-preserved g c = IsMerging-merged g.met.K.Eq.laws c.max.result c.loop-node.invariant
    c.in-Some.ensures.steps c.entry.ensures.acts (search rules) (grind (arith, c.in_ok-known.ensures.value))
