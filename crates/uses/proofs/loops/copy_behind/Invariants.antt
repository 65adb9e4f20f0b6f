use Rattle.linked_hash_map.proofs.Callers.Prelude.{◌+◌, length, to_visit, VisitAppends}
use Rattle.uses.proofs.loops.copy_behind.Given as goal

abbrev pub invariant-loop-entry : goal.invariant-loop-entry
invariant-loop-entry l = VisitAppends (λ pair. (pair.0 + l.offset, pair.1))
    l.fn.counts.pairs l.entries.pairs (to_visit l.entries) l.copied

abbrev pub decreases-loop-entry : goal.decreases-loop-entry
decreases-loop-entry l = length (to_visit l.entries)
