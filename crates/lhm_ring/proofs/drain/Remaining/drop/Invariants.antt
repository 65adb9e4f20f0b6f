use Rattle.lhm_ring.proofs.Names.{length}
use Rattle.lhm_ring.proofs.drain.Remaining.drop.Given as goal

abbrev pub decreases-rest : goal.decreases-rest
decreases-rest g l = length l.self
