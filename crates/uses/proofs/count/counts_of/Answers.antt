use Rattle.linked_hash_map.proofs.Callers.Prelude.{arith, CountsItems-set_or_push}
use Rattle.uses.proofs.count.counts_of.Goals as goal

pub loop-word-preserved : goal.loop-word-preserved
loop-word-preserved g c = grind (arith, CountsItems-set_or_push, g.met.K.Eq.laws)
