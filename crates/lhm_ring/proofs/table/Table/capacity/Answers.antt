use Rattle.lhm_ring.proofs.{Names.arith, Names.length, Names.◌+◌, indexes.BucketCounts.most_nodes-buckets}
use Rattle.lhm_ring.proofs.table.Table.capacity.Goals as goal

pub returns-clause-made_within : goal.returns-clause-made_within
returns-clause-made_within g c =
    let within = c.self.invariant.nodes_within in let count = c.self.invariant.indexed.count in
    rw (← c.self.view_is) (omega (arith, within, count))

pub returns-clause-made_twice : goal.returns-clause-made_twice
returns-clause-made_twice g c =
    let within = c.self.invariant.nodes_within in let count = c.self.invariant.indexed.count in
    let i = c.self.inside in let twice = most_nodes-buckets (length i.ring.held + i.ring.spares) in
    rw (← c.self.view_is) (omega (arith, within, count, twice))
