use Rattle.linked_hash_map.proofs.{Names.deref, pairs.IteratorLaws.shows_in_order, pairs.IteratorLaws.shows_in_reverse}
use Rattle.linked_hash_map.proofs.map.LinkedHashMap.keys.Goals as goal

pub returns-clause-runs : goal.returns-clause-runs
returns-clause-runs g c = shows_in_order deref

pub returns-clause-runs_back : goal.returns-clause-runs_back
returns-clause-runs_back g c = shows_in_reverse deref
