use Rattle.linked_hash_map.proofs.{Names.IsValid, pairs.Clones.HasCloned}
use Rattle.linked_hash_map.proofs.clone.LinkedHashMapClone.clone.Given as goal

abbrev pub invariant-loop-key : goal.invariant-loop-key
invariant-loop-key g l = record {
  cloned : HasCloned g.K.PartialEq.eq g.K.Clone.is_clone g.V.Clone.is_clone g.S.Clone.is_clone l.self l.key-iterator l.map;
  valid : IsValid g.K.PartialEq.eq l.map;
}
