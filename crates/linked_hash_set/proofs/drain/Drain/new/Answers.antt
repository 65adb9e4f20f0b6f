use Rattle.linked_hash_set.proofs.Drained.{drains_in_order, drains_in_reverse, stays, stays_back}
use Rattle.linked_hash_set.proofs.drain.Drain.new.Goals as goal

pub returns-clause-runs : goal.returns-clause-runs
returns-clause-runs g c = drains_in_order

pub returns-clause-runs_back : goal.returns-clause-runs_back
returns-clause-runs_back g c = drains_in_reverse

pub returns-clause-stays : goal.returns-clause-stays
returns-clause-stays g c = stays _

pub returns-clause-stays_back : goal.returns-clause-stays_back
returns-clause-stays_back g c = stays_back _
