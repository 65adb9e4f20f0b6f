use Rattle.linked_hash_map.proofs.{Names.deref_pair, pairs.ExtendSteps.IsExtended}
use Rattle.linked_hash_map.proofs.map.LinkedHashMap.extend_refs.Given as goal

abbrev pub invariant-loop-key : goal.invariant-loop-key
invariant-loop-key g l =
    IsExtended g.K.PartialEq.eq deref_pair g.I.IntoIter.Iterator.remaining l.fn.self l.initial.key-iterator
    l.key-iterator l.yielded l.self
