use Rattle.linked_hash_map.proofs.Callers.Prelude.{rules, VisitTakes-passed, VisitTakes-removed}
use Rattle.uses.proofs.loops.take_out_zeros.Goals as goal

pub loop-entry-preserved-then-get-eq0 : goal.loop-entry-preserved-then-get-eq0
loop-entry-preserved-then-get-eq0 g c = search (rules, g.met.K.Eq.laws, VisitTakes-removed)

pub loop-entry-preserved : goal.loop-entry-preserved
loop-entry-preserved g c = search (rules, g.met.K.Eq.laws, VisitTakes-passed)
