use Rattle.linked_hash_map.proofs.Names.{length}
use Rattle.linked_hash_map.proofs.map.LinkedHashMap.drop.Given as goal

abbrev pub invariant-pairs : goal.invariant-pairs
invariant-pairs g l = Unit {0}

abbrev pub decreases-pairs : goal.decreases-pairs
decreases-pairs g l = length l.pairs
