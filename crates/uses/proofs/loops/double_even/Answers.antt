use Rattle.linked_hash_map.proofs.Callers.Prelude.{rules, ◌<◌, ◌^◌, arith, changes, VisitMaps-holds}
use Rattle.uses.proofs.loops.double_even.Goals as goal

pub overflow_mul-number : goal.overflow_mul-number
overflow_mul-number g c = let entry = c.in-Some.ensures in let small = VisitMaps-holds
    g.met.K.Eq.laws c.loop-entry.invariant entry.visits entry.valid.distinct entry.value
    (λ pair. pair.1 < 2 ^ 63) c.requires.fits in omega (arith, small, c.get-number.ensures)

pub loop-entry-preserved-then-number-eq0 : goal.loop-entry-preserved-then-number-eq0
loop-entry-preserved-then-number-eq0 g c = search (rules, arith, g.met.K.Eq.laws, changes)

pub loop-entry-preserved : goal.loop-entry-preserved
loop-entry-preserved g c = search (rules, g.met.K.Eq.laws, changes)
