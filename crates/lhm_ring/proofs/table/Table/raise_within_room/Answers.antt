use Rattle.lhm_ring.proofs.Names.{IsPowerOfTwo, arith, buckets, least_more, length, max, nodes_grown, subst, sym, ◌+◌, ◌∙◌, ◌≡◌}
use Rattle.lhm_ring.proofs.indexes.BucketCounts.{IsNextPowerOfTwo-buckets, buckets-at_least}
use Rattle.lhm_ring.proofs.tables.Tables.{IsTable-raised, heads-table, length-capacity}
use Rattle.lhm_ring.proofs.table.Table.raise_within_room.Goals as goal

pub spread-requires-clause-buckets : goal.spread-requires-clause-buckets
spread-requires-clause-buckets g c = omega (arith, c.requires.some, heads-table c.self.invariant c.self.view_is)

pub spread-requires-clause-within : goal.spread-requires-clause-within
spread-requires-clause-within g c =
    let heads = heads-table c.self.invariant c.self.view_is in
    omega (arith, buckets-at_least c.args.capacity, c.requires.more, c.requires.count, c.requires.few, heads)

pub spread-requires-clause-some : goal.spread-requires-clause-some
spread-requires-clause-some g c = omega (arith, c.requires.higher, c.requires.count, buckets-at_least c.args.capacity)

pub spread-requires-clause-power : goal.spread-requires-clause-power
spread-requires-clause-power g c =
    subst IsPowerOfTwo (sym c.requires.count)
    (IsNextPowerOfTwo-buckets c.args.capacity (omega (arith, c.requires.higher))).0

pub invariant_of-self-2 : goal.invariant_of-self-2
invariant_of-self-2 g c =
    let grown = c.in_ok-grow_within.ensures in let spread = c.spread.ensures in
    let all = length-capacity c.self.invariant c.self.view_is in
    IsTable-raised c.self.invariant c.args.capacity (omega (arith, all, c.requires.higher))
    (omega (arith, c.requires.more, heads-table c.self.invariant c.self.view_is))
    c.args.additional grown.held grown.spares grown.nodes_within spread.links spread.indexed (spread.buckets ∙ c.requires.count)
    (omega (arith, all, c.requires.sum)) c.requires.limit (omega (arith, c.max.ensures, c.requires.count)) spread.count

pub returns-clause-made : goal.returns-clause-made
returns-clause-made g c =
    let i = c.self.inside in let all = length-capacity c.self.invariant c.self.view_is in
    let needed : length i.ring.held + i.ring.spares + c.args.additional ≡ c.args.capacity = omega (arith, all, c.requires.sum) in
    let most : c.max.result ≡ max 2 (buckets c.args.capacity) = omega (arith, c.max.ensures, c.requires.count) in
    rw (← c.self.view_is) (c.spread.ensures.links.nodes ∙ c.in_ok-grow_within.ensures.nodes
    ∙ (λ j. nodes_grown i.ring.nodes (needed j) (least_more c.args.additional i.ring.nodes (most j))))
