use Rattle.linked_hash_map.proofs.Callers.Turns.{IsRenaming}
use Rattle.uses.proofs.document.Document.rename.Given as goal

abbrev pub invariant-loop-turn : goal.invariant-loop-turn
invariant-loop-turn g l =
    IsRenaming g.K.PartialEq.eq l.fn.self.fields.pairs l.self.fields.pairs l.from l.to l._turn
