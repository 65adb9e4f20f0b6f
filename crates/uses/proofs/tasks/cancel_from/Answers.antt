use Rattle.linked_hash_map.proofs.Callers.Prelude.{rules, filter_same}
use Rattle.uses.proofs.tasks.cancel_from.Goals as goal

pub returns-clause-order : goal.returns-clause-order
returns-clause-order c = filter_same _ _ _ (λ task b f call. search rules) _ _ c.retain.ensures.items
