use Rattle.linked_hash_map.proofs.Callers.Prelude.{rules, VisitAppends-appended_number}
use Rattle.uses.proofs.loops.copy_behind.Goals as goal

pub loop-entry-preserved : goal.loop-entry-preserved
loop-entry-preserved c = let is = c.in-Some.ensures in VisitAppends-appended_number
    c.loop-entry.invariant is.visits is.valid is.value is.pairs (search rules) (search rules)
