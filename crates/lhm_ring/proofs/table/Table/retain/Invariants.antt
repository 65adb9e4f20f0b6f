use Rattle.lhm_ring.proofs.Names.{CalledAtPair, KeepsCounts, TakesPair, pointer_of_some}
use Rattle.lhm_ring.proofs.tables.Retained.{IsRetaining, left_from}
use Rattle.lhm_ring.proofs.table.Table.retain.Given as goal

abbrev pub invariant-loop-next : goal.invariant-loop-next
invariant-loop-next g l = record {
  retaining : IsRetaining (CalledAtPair g.F.FnMut) (TakesPair g.F.FnMut) l.initial.keep
      l.initial.self.held l.keep l.self.held (pointer_of_some l.next);
  keeps : KeepsCounts l.initial.self l.self;
}

abbrev pub decreases-loop-next : goal.decreases-loop-next
decreases-loop-next g l = left_from (pointer_of_some l.next) l.self.held
