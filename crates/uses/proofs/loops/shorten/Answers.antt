use Rattle.linked_hash_map.proofs.Callers.{Prelude.rules, Rules.visits}
use Rattle.uses.proofs.loops.shorten.Goals as goal

pub loop-entry-preserved-then-get-eq0 : goal.loop-entry-preserved-then-get-eq0
loop-entry-preserved-then-get-eq0 g c = search (rules, g.met.K.Eq.laws, visits)

pub loop-entry-preserved : goal.loop-entry-preserved
loop-entry-preserved g c = search (rules, g.met.K.Eq.laws, visits)
