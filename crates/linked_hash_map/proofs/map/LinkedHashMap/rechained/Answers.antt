use Rattle.linked_hash_map.proofs.{Names.arith, Names.subst, Names.◌≤◌, pairs.RehashCounts.buckets-table}
use Rattle.lhm_ring.proofs.indexes.BucketCounts.{buckets-below}
use Rattle.linked_hash_map.proofs.map.LinkedHashMap.rechained.Goals as goal

pub returns-clause-few : goal.returns-clause-few
returns-clause-few g c = rw (← c.self.view_is) (subst (λ n. c.self.inside.table.rechained ≤ n) (buckets-table c.self.inside.table.capacity)
    c.rechained.ensures.few)

pub returns-clause-below : goal.returns-clause-below
returns-clause-below g c = rw (← c.self.view_is) (λ some.
    let below = buckets-below _ some in let few = c.rechained.ensures.few in
    omega arith)
