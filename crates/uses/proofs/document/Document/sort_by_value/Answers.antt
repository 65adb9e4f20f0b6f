use Rattle.linked_hash_map.proofs.Callers.{Prelude.rules, Sorts.IsSortedByKey-from_sort_by_pairs}
use Rattle.uses.proofs.document.Document.sort_by_value.Goals as goal

pub returns-clause-sorted : goal.returns-clause-sorted
returns-clause-sorted g c = IsSortedByKey-from_sort_by_pairs g.met.V.Ord.total (λ field. field.1) _
    c.sort_by.ensures.sorted (λ a r f called. search rules)
