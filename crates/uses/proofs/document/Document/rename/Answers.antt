use Rattle.linked_hash_map.proofs.Callers.Prelude.{sym, arith, IsRenaming-turn}
use Rattle.uses.proofs.document.Document.rename.Goals as goal

pub loop-turn-preserved : goal.loop-turn-preserved
loop-turn-preserved g c = let pop = c.in-Some.ensures in
    IsRenaming-turn g.met.K.Eq.laws _ _ _ _ _ _ _ c.loop-turn.invariant pop.valid.distinct
    (sym pop.pair) (omega arith) pop.pairs c.name_after.ensures c.in-Ok.ensures.pairs
