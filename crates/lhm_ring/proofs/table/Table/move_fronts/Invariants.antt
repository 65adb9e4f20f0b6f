use Rattle.lhm_ring.proofs.Names.{KeepsCounts, take, ◌++◌, ◌≡◌}
use Rattle.std.proofs.Common.{drop}
use Rattle.lhm_ring.proofs.table.Table.move_fronts.Given as goal

abbrev pub invariant-loop-moved : goal.invariant-loop-moved
invariant-loop-moved g l = record {
  rotated : l.self.held ≡ drop l._moved l.initial.self.held ++ take l._moved l.initial.self.held;
  keeps : KeepsCounts l.initial.self l.self;
}
