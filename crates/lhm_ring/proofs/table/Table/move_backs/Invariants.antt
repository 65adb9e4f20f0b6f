use Rattle.lhm_ring.proofs.Names.{KeepsCounts, length, take, ◌++◌, ◌-◌, ◌≡◌}
use Rattle.std.proofs.Common.{drop}
use Rattle.lhm_ring.proofs.table.Table.move_backs.Given as goal

abbrev pub invariant-loop-moved : goal.invariant-loop-moved
invariant-loop-moved g l = let hs = l.initial.self.held in record {
  rotated : l.self.held ≡ drop (length hs - l._moved) hs ++ take (length hs - l._moved) hs;
  keeps : KeepsCounts l.initial.self l.self;
}
