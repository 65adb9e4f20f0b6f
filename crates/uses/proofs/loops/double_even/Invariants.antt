use Rattle.linked_hash_map.proofs.Callers.Prelude.{◌*◌, length, to_visit, VisitMaps}
use Rattle.uses.specs.Counting.{is_even}
use Rattle.uses.proofs.loops.double_even.Given as goal

abbrev pub invariant-loop-entry : goal.invariant-loop-entry
invariant-loop-entry g l = VisitMaps is_even (λ pair. pair.1 * 2)
    l.fn.numbers.pairs l.entries.pairs (to_visit l.entries)

abbrev pub decreases-loop-entry : goal.decreases-loop-entry
decreases-loop-entry g l = length (to_visit l.entries)
