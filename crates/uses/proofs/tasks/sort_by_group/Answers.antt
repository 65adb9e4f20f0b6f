use Rattle.linked_hash_map.proofs.Callers.Prelude.{rules, ◌/◌}
use Rattle.std.proofs.lemmas.List.Sorted.{IsNonDecreasingBy-from_sort_by}
use Rattle.uses.proofs.tasks.sort_by_group.Goals as goal

pub returns-clause-sorted : goal.returns-clause-sorted
returns-clause-sorted c = IsNonDecreasingBy-from_sort_by (λ task. task / 100) _
    c.sort_by.ensures.sorted (λ a r f called. search rules)
