use Rattle.lhm_ring.proofs.{Names.KeepsCounts, Names.pointer_of_some, tables.Reversed.IsReversing}
use Rattle.lhm_ring.proofs.table.Table.reverse.Given as goal

abbrev pub invariant-loop-moved : goal.invariant-loop-moved
invariant-loop-moved g l = record {
  reversing : IsReversing l.initial.self.held l.self.held (pointer_of_some l.next) l._moved;
  keeps : KeepsCounts l.initial.self l.self;
}
