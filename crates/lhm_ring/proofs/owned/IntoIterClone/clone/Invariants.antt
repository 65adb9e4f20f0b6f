use Rattle.lhm_ring.proofs.Names.{AllZip, IsTripleClone, List, length, triples, ℕ, ◌++◌, ◌≡◌}
use Rattle.lhm_ring.proofs.owned.IntoIterClone.clone.Given as goal

abbrev pub invariant-loop-hash : goal.invariant-loop-hash
invariant-loop-hash g l = record {
  first : List (ℕ × (g.row.K.Denot × g.row.V.Denot));
  split : l.self ≡ first ++ triples l.hash-iterator;
  each : AllZip (IsTripleClone g.K.Clone.is_clone g.V.Clone.is_clone) first (triples l.ring.held);
  room : l.ring.spares ≡ length l.hash-iterator;
}
