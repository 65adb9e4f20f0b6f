use Rattle.linked_hash_map.proofs.Callers.Prelude.{arith, IsTurned-turn}
use Rattle.uses.proofs.scheduler.round.Goals as goal

pub loop-turn-preserved : goal.loop-turn-preserved
loop-turn-preserved c = IsTurned-turn c.loop-turn.invariant (omega arith) c.turn.ensures.turned
