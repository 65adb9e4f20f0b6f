use Rattle.linked_hash_map.proofs.pairs.IteratorLaws.{gives_in_order, gives_in_reverse}
use Rattle.linked_hash_map.proofs.map.LinkedHashMap.into_keys.Goals as goal

pub returns-clause-runs : goal.returns-clause-runs
returns-clause-runs g c = gives_in_order

pub returns-clause-runs_back : goal.returns-clause-runs_back
returns-clause-runs_back g c = gives_in_reverse
