use Rattle.lhm_ring.proofs.Names.{ap, pointer_of_some, refl}
use Rattle.lhm_ring.proofs.tables.Retained.{IsRetaining-start, IsRetaining-step, RetainsHeld-end, TakesAt-next, left_from-smaller}
use Rattle.lhm_ring.proofs.tables.{Positions.AtHeld-next, Retained.next_held, Tables.KeepsCounts-trans}
use Rattle.lhm_ring.proofs.table.Table.retain.Goals as goal

pub loop-next-init : goal.loop-next-init
loop-next-init g c = record {
  retaining = IsRetaining-start c.requires c.first-next.ensures;
  keeps = record { capacity = refl; rechained = refl; made = refl };
}

pub next-next-requires : goal.next-next-requires
next-next-requires g c = next_held c.loop-next.invariant.retaining (ap pointer_of_some c.in-Some.is)

pub retain_at-requires : goal.retain_at-requires
retain_at-requires g c = TakesAt-next c.loop-next.invariant.retaining (ap pointer_of_some c.in-Some.is)

pub loop-next-preserved : goal.loop-next-preserved
loop-next-preserved g c = record {
  retaining = IsRetaining-step c.loop-next.invariant.retaining (ap pointer_of_some c.in-Some.is) c.retain_at.ensures.retained
      (AtHeld-next c.next-next.ensures.next);
  keeps = KeepsCounts-trans c.loop-next.invariant.keeps c.retain_at.ensures.keeps;
}

pub loop-next-smaller : goal.loop-next-smaller
loop-next-smaller g c = left_from-smaller c.loop-next.invariant.retaining (ap pointer_of_some c.in-Some.is) c.retain_at.ensures.retained
    (AtHeld-next c.next-next.ensures.next) c.next-next.ensures.apart

pub returns-clause-retained : goal.returns-clause-retained
returns-clause-retained g c = RetainsHeld-end c.loop-next.invariant.retaining (ap pointer_of_some c.in_default.is)
