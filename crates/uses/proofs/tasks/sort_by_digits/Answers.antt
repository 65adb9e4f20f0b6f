use Rattle.linked_hash_map.proofs.Callers.Prelude.{rules, ◌%◌}
use Rattle.std.proofs.lemmas.List.Sorted.{IsNonDecreasingBy-from_sort_by_key}
use Rattle.uses.proofs.tasks.sort_by_digits.Goals as goal

pub returns-clause-sorted : goal.returns-clause-sorted
returns-clause-sorted c = IsNonDecreasingBy-from_sort_by_key (λ task. task % 100) _
    c.in_ok-sort_by_cached_key.ensures.sorted (λ a r f called. search rules)
