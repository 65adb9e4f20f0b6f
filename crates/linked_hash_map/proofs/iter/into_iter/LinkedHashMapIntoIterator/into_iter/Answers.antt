use Rattle.linked_hash_map.proofs.pairs.IteratorLaws.{gives_in_order, gives_in_reverse}
use Rattle.linked_hash_map.proofs.iter.into_iter.LinkedHashMapIntoIterator.into_iter.Goals as goal

pub returns : goal.returns
returns g c = record { into_iter_gives = (c.into_pairs.ensures.pairs, c.into_pairs.ensures.valid, gives_in_order, gives_in_reverse) }
