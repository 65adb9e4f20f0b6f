use Rattle.linked_hash_map.proofs.Callers.Prelude.{rules}
use Rattle.std.proofs.lemmas.List.Sorted.{IsStrictWeakOrder-flip, answers_always, ranks_by}
use Rattle.uses.proofs.tasks.Tasks.sort_latest_first.Goals as goal

pub returns-clause-sorted : goal.returns-clause-sorted
returns-clause-sorted g c = c.sort_by.ensures.sorted _
    (IsStrictWeakOrder-flip _ (ranks_by g.met.T.Ord.total (λ task. task)))
    (answers_always _ _ _ (λ f a r next called. search rules))
