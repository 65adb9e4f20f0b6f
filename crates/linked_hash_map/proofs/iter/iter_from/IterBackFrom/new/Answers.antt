use Rattle.linked_hash_map.proofs.Names.{index_of-held}
use Rattle.linked_hash_map.proofs.iter.iter_from.IterBackFrom.new.Goals as goal

pub invariant_of-result : goal.invariant_of-result
invariant_of-result g c = index_of-held c.requires
