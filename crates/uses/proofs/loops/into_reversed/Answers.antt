use Rattle.linked_hash_map.proofs.Callers.Iterators.{items_from_rev_collect}
use Rattle.uses.proofs.loops.into_reversed.Goals as goal

pub returns : goal.returns
returns g c = items_from_rev_collect c.args.map.pairs _ c.collect.ensures.ran (cc)
