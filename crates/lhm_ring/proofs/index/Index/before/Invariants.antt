use Rattle.lhm_ring.proofs.Names.{length, pointer_of, pointer_of_some, target, ◌-◌, ◌≡◌}
use Rattle.lhm_ring.proofs.indexes.NodeBefore.{IsTowards}
use Rattle.lhm_ring.proofs.index.Index.before.Given as goal

abbrev pub invariant-chain : goal.invariant-chain
invariant-chain g l = record {
  towards : IsTowards l.self.heads l.hash l.fn.ring.held l.ring.held (pointer_of l.at)
      (target l.link) (pointer_of_some l.before) (pointer_of l.here) l.passed;
  spares : l.ring.spares ≡ l.fn.ring.spares;
  nodes : l.ring.nodes ≡ l.fn.ring.nodes;
}

abbrev pub decreases-chain : goal.decreases-chain
decreases-chain g l = length l.fn.ring.held - l.passed
