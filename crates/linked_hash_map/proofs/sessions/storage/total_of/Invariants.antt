use Rattle.linked_hash_map.proofs.Names.{◌+◌, ◌≡◌, total_weight, sessions_of}
use Rattle.linked_hash_map.proofs.sessions.storage.total_of.Given as goal

-- the sum so far and that of the sessions to come are the sum of all
abbrev pub invariant-loop-id : goal.invariant-loop-id
invariant-loop-id g l = l.total + total_weight (sessions_of l._id-iterator) ≡ total_weight (sessions_of l.fn.map.pairs)
