use Rattle.lhm_ring.proofs.{Names.None, Names.arith, Names.leads_to, indexes.BucketHeads.get_or-cleared}
use Rattle.lhm_ring.proofs.bucket_parts.clear_heads.Goals as goal

pub heads-preserved : goal.heads-preserved
heads-preserved c = record {
  cleared = get_or-cleared leads_to None c.heads.heads.items c.heads.next (record { link = c.none.result }) c.none.ensures
      c.heads.invariant.cleared;
  buckets = c.heads.invariant.buckets;
  capacity = c.heads.invariant.capacity;
  in_place = c.heads.invariant.in_place;
}

pub returns-clause-empty : goal.returns-clause-empty
returns-clause-empty c = λ b l. c.heads.invariant.cleared b (omega (arith, l, c.heads.invariant.buckets))
