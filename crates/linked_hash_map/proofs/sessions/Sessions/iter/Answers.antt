use Rattle.linked_hash_map.proofs.{Names.deref_session, pairs.IteratorLaws.shows_in_order}
use Rattle.linked_hash_map.proofs.sessions.Sessions.iter.Goals as goal

pub returns-clause-runs : goal.returns-clause-runs
returns-clause-runs g c = shows_in_order deref_session
