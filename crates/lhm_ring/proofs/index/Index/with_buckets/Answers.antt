use Rattle.lhm_ring.proofs.{Names.arith, indexes.BucketCounts.buckets-most}
use Rattle.lhm_ring.proofs.index.Index.with_buckets.Goals as goal

pub block_heads-requires : goal.block_heads-requires
block_heads-requires g c = omega (arith, buckets-most c.args.capacity c.requires, c.buckets_for-count.ensures.value)

pub in_block-requires-clause-small : goal.in_block-requires-clause-small
in_block-requires-clause-small g c = omega (arith, buckets-most c.args.capacity c.requires, c.buckets_for-count.ensures.value)
