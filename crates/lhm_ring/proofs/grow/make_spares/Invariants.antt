use Rattle.lhm_ring.proofs.Names.{IsStacked, row, ◌-◌, ◌<◌, ◌^◌, ◌≡◌, ◌≤◌}
use Rattle.lhm_ring.proofs.grow.make_spares.Given as goal

abbrev pub invariant-each : goal.invariant-each
invariant-each g l = record {
  few : l.left ≤ l.fn.count;
  small : l.nodes.node_bytes < 2 ^ 63;
  unused : l.nodes.unused ≡ row l.fn.start.ptr l.nodes.node_bytes l.left;
  chunks : l.nodes.chunks ≡ l.fn.nodes.chunks;
  stacked : IsStacked l.fn.nodes.cells l.fn.spare (l.fn.count - l.left) l.nodes.cells l.first;
}

abbrev pub decreases-each : goal.decreases-each
decreases-each g l = l.left
