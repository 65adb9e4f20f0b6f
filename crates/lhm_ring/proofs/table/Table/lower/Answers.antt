use Rattle.lhm_ring.proofs.Names.{ap, arith, buckets, length, sym, ◌∙◌}
use Rattle.lhm_ring.proofs.tables.Tables.{heads-table, length-capacity, length-table}
use Rattle.lhm_ring.proofs.{indexes.BucketCounts.buckets-fall, lists.Results.OnErr-always}
use Rattle.lhm_ring.proofs.table.Table.lower.Goals as goal

pub returns-clause-falls : goal.returns-clause-falls
returns-clause-falls g c =
    let m = c.args.self.now in
    let held = length-table c.self.invariant c.self.view_is in let all = length-capacity c.self.invariant c.self.view_is in
    let fewer = c.buckets_for.ensures.value ∙ ap buckets (c.len-len.ensures.value ∙ held) in
    let now = c.buckets.ensures ∙ heads-table c.self.invariant c.self.view_is in
    OnErr-always c.lower_buckets.result (buckets-fall (length m.held) m.capacity (omega (arith, held, all))
    (λ same. c.if-buckets_for-buckets.false (fewer ∙ sym same ∙ sym now)))
