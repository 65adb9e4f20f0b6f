use Rattle.linked_hash_map.proofs.{Names.sessions_of, session_table.Leaving.IsPast}
use Rattle.linked_hash_map.proofs.sessions.storage.find_leaving.Given as goal

-- as many have been passed as count says
abbrev pub invariant-loop-other : goal.invariant-loop-other
invariant-loop-other g l = IsPast l.fn.id l.fn.weight_left (sessions_of l.fn.map.pairs) l.count l.staying (sessions_of l.other-iterator)
