use Rattle.lhm_ring.proofs.Names.{arith, buckets, least_more, length, max, nodes_grown, ◌+◌, ◌∙◌, ◌≡◌}
use Rattle.lhm_ring.proofs.tables.Tables.{IsTable-raised, heads-table, length-capacity}
use Rattle.lhm_ring.proofs.table.Table.raise_buckets.Goals as goal

pub raise_within_room-requires-clause-some : goal.raise_within_room-requires-clause-some
raise_within_room-requires-clause-some g c =
    omega (
      arith,
      c.has_room.ensures.some c.if-has_room.true,
      heads-table c.self.invariant c.self.view_is,
    )

pub invariant_of-self : goal.invariant_of-self
invariant_of-self g c =
    let grown = c.in-Ok.ensures in let taken = c.take_over.ensures in let fresh = c.in_ok-fresh.ensures.buckets in
    let all = length-capacity c.self.invariant c.self.view_is in
    IsTable-raised c.self.invariant c.args.capacity (omega (arith, all, c.requires.higher))
    (omega (arith, c.requires.more, heads-table c.self.invariant c.self.view_is))
    c.args.additional grown.held grown.spares grown.nodes_within taken.links taken.indexed (taken.buckets ∙ fresh)
    (omega (arith, all, c.requires.sum)) c.requires.limit (omega (arith, c.max.ensures, c.buckets.ensures, fresh)) taken.count

pub returns-in-Ok-clause-made : goal.returns-in-Ok-clause-made
returns-in-Ok-clause-made g c =
    let i = c.self.inside in let all = length-capacity c.self.invariant c.self.view_is in
    let needed : length i.ring.held + i.ring.spares + c.args.additional ≡ c.args.capacity = omega (arith, all, c.requires.sum) in
    let most : c.max.result ≡ max 2 (buckets c.args.capacity) =
    omega (arith, c.max.ensures, c.buckets.ensures, c.in_ok-fresh.ensures.buckets) in
    rw (← c.self.view_is) (c.take_over.ensures.links.nodes ∙ c.in-Ok.ensures.nodes
    ∙ (λ j. nodes_grown i.ring.nodes (needed j) (least_more c.args.additional i.ring.nodes (most j))))
