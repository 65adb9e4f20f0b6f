use Rattle.linked_hash_map.proofs.Callers.Rounds.{IsTurned}
use Rattle.uses.specs.Counting.{ran}
use Rattle.uses.proofs.scheduler.round.Given as goal

abbrev pub invariant-loop-turn : goal.invariant-loop-turn
invariant-loop-turn l = IsTurned ran l.fn.tasks.pairs l.tasks.pairs l._turn
