use Rattle.lhm_ring.proofs.{Names.length, Names.pointer_of_some, Names.◌-◌, Names.◌≡◌, indexes.IndexPuts.IsRehashing}
use Rattle.lhm_ring.proofs.index.Index.put_in_all.Given as goal

abbrev pub invariant-loop-pointer : goal.invariant-loop-pointer
invariant-loop-pointer g l = record {
  rehashing : IsRehashing l.self l.initial.ring.held l.ring.held (pointer_of_some l.pointer) l.count (length l.initial.self.heads);
  spares : l.ring.spares ≡ l.initial.ring.spares;
  nodes : l.ring.nodes ≡ l.initial.ring.nodes;
}

abbrev pub decreases-loop-pointer : goal.decreases-loop-pointer
decreases-loop-pointer g l = length l.initial.ring.held - l.count
