use Rattle.lhm_ring.proofs.Names.{length, triples, ◌++◌, ◌+◌, ◌≡◌}
use Rattle.lhm_ring.proofs.resize.move_all.Given as goal

abbrev pub invariant-each : goal.invariant-each
invariant-each g l = record {
  all : triples l.to.held ++ triples l.from.held ≡ triples l.fn.to.held ++ triples l.fn.from.held;
  room : l.to.spares + length l.fn.from.held ≡ l.fn.to.spares + length l.from.held;
  nodes : l.to.nodes ≡ l.fn.to.nodes;
}

abbrev pub decreases-each : goal.decreases-each
decreases-each g l = length l.from.held
