use Rattle.lhm_ring.proofs.Names.{Cell, HasRow, Links, List, Option, Ptr, SparesRow, target, ◌≡◌}
use Rattle.lhm_ring.proofs.drain.spare_row.Given as goal

abbrev pub invariant-row : goal.invariant-row
invariant-row g l = record {
  row : HasRow l.nodes.cells l.at.ptr l.left (target l.spare);
  ends : (ds : List (Cell Links (g.row.K.Denot × g.row.V.Denot))) (s : Option Ptr)
      → SparesRow l.nodes.cells l.at.ptr l.left (target l.spare) ds s
      → SparesRow l.fn.nodes.cells l.fn.first.ptr l.fn.count (target l.fn.spare) ds s;
  unused : l.nodes.unused ≡ l.fn.nodes.unused;
  chunks : l.nodes.chunks ≡ l.fn.nodes.chunks;
}

abbrev pub decreases-row : goal.decreases-row
decreases-row g l = l.left
