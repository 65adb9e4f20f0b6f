use Rattle.lhm_ring.proofs.Names.{ap, arith, buckets, sym, ◌∙◌}
use Rattle.lhm_ring.proofs.indexes.BucketCounts.{buckets-least_power, buckets-zero}
use Rattle.lhm_ring.proofs.buckets.buckets_for.Goals as goal

pub returns-then-capacity-eq0-clause-value : goal.returns-then-capacity-eq0-clause-value
returns-then-capacity-eq0-clause-value c = sym buckets-zero ∙ ap buckets (sym c.if-capacity-eq0.true)

pub returns-else-capacity-eq0-clause-value : goal.returns-else-capacity-eq0-clause-value
returns-else-capacity-eq0-clause-value c =
    buckets-least_power c.args.capacity c.next_power_of_two.result c.next_power_of_two.ensures.power
    c.next_power_of_two.ensures.lower_bound c.next_power_of_two.ensures.upper_bound (omega arith)
