use Rattle.linked_hash_map.proofs.Callers.Prelude.{take, CountsKnown}
use Rattle.uses.proofs.count.count_known.Given as goal

abbrev pub invariant-loop-word : goal.invariant-loop-word
invariant-loop-word g l =
    CountsKnown g.K.PartialEq.eq l.fn.counts.pairs l.counts.pairs (take l.word-index l.words)
