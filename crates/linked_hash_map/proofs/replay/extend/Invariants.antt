use Rattle.linked_hash_map.proofs.{Names.MayEndVisit, Names.into_iter_items, runs.Extends.HasExtended}
use Rattle.linked_hash_map.proofs.replay.extend.Given as goal

abbrev pub invariant-loop-key : goal.invariant-loop-key
invariant-loop-key g l = record {
  extended : HasExtended g.K.PartialEq.eq l.fn.map l.fn.pairs l.yielded (into_iter_items l.key-iterator) l.inserted l.map;
  visit : MayEndVisit l.fn.map l.map;
}
