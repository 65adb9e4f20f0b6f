use Rattle.linked_hash_map.proofs.{Names.arith, session_table.Retained.total_weight-next}
use Rattle.linked_hash_map.proofs.sessions.storage.total_of.Goals as goal

pub overflow_add-total : goal.overflow_add-total
overflow_add-total g c = let next = total_weight-next _ _ _ c.in-Some.ensures.steps in omega (arith, next, c.loop-id.invariant, c.requires)

pub loop-id-preserved : goal.loop-id-preserved
loop-id-preserved g c = let next = total_weight-next _ _ _ c.in-Some.ensures.steps in omega (arith, next, c.loop-id.invariant)
