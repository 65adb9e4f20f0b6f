use Rattle.lhm_ring.{proofs.Names.[], proofs.Names.length, proofs.Names.◌≡◌, specs.Links.IsChain}
use Rattle.lhm_ring.proofs.chunks.free_chunks.Given as goal

abbrev pub invariant-each : goal.invariant-each
invariant-each g l = record {
  cells : l.nodes.cells ≡ [];
  chain : IsChain l.nodes.chunks l.newest.ptr;
}

abbrev pub decreases-each : goal.decreases-each
decreases-each g l = length l.nodes.chunks
