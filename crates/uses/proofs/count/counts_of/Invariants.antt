use Rattle.linked_hash_map.proofs.Callers.Prelude.{take, CountsItems}
use Rattle.uses.proofs.count.counts_of.Given as goal

abbrev pub invariant-loop-word : goal.invariant-loop-word
invariant-loop-word g l = CountsItems g.K.PartialEq.eq l.counts.pairs (take l.word-index l.words)
