use Rattle.linked_hash_map.proofs.Callers.Prelude.{length, to_visit, VisitKeeps}
use Rattle.uses.specs.Counting.{has_count}
use Rattle.uses.proofs.loops.shorten.Given as goal

abbrev pub invariant-loop-entry : goal.invariant-loop-entry
invariant-loop-entry g l = VisitKeeps has_count l.fn.counts.pairs l.entries.pairs (to_visit l.entries)

abbrev pub decreases-loop-entry : goal.decreases-loop-entry
decreases-loop-entry g l = length (to_visit l.entries)
