use Rattle.linked_hash_map.proofs.Callers.{Prelude.rules, Sorts.IsNonDecreasingBy-from_sort_by_pairs}
use Rattle.uses.proofs.prices.Prices.sort.Goals as goal

pub returns-clause-sorted : goal.returns-clause-sorted
returns-clause-sorted c = IsNonDecreasingBy-from_sort_by_pairs (λ item. item.1) _
    c.sort_by.ensures.sorted (λ a r f called. search rules)
