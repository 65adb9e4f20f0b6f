use Rattle.linked_hash_map.proofs.Callers.Prelude.{length, to_visit, VisitTakes}
use Rattle.uses.specs.Counting.{has_count}
use Rattle.uses.proofs.loops.take_out_zeros.Given as goal

abbrev pub invariant-loop-entry : goal.invariant-loop-entry
invariant-loop-entry g l = VisitTakes has_count l.fn.counts.pairs l.entries l.taken

abbrev pub decreases-loop-entry : goal.decreases-loop-entry
decreases-loop-entry g l = length (to_visit l.entries)
