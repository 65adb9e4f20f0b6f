use Rattle.linked_hash_map.proofs.session_table.{HandOuts.leaving-fit, Lists.without-absent}
use Rattle.linked_hash_map.proofs.sessions.Sessions.put_with.Goals as goal

pub returns-in-Ok-clause-all : goal.returns-in-Ok-clause-all
returns-in-Ok-clause-all g c = rw c.in-Ok.ensures.put.stay (leaving-fit _ _)

pub returns-then-weight-self-clause-new_id : goal.returns-then-weight-self-clause-new_id
returns-then-weight-self-clause-new_id g c = without-absent c.args.self.now.sessions c.args.id

pub returns-in-Ok-clause-new_id : goal.returns-in-Ok-clause-new_id
returns-in-Ok-clause-new_id g c = without-absent c.args.self.now.sessions c.args.id

pub returns-clause-new_id : goal.returns-clause-new_id
returns-clause-new_id g c = without-absent c.args.self.now.sessions c.args.id
