use Rattle.linked_hash_map.proofs.Callers.Prelude.{rules, ℕ}
use Rattle.std.proofs.lemmas.List.{MinMax.IsStrictWeakOrder-by_number, Sorted.IsStrictWeakOrder-flip, Sorted.answers_always}
use Rattle.uses.proofs.basket.Basket.sort.Goals as goal

pub returns-clause-sorted : goal.returns-clause-sorted
returns-clause-sorted c = c.sort_by.ensures.sorted _
    (IsStrictWeakOrder-flip _ (IsStrictWeakOrder-by_number (λ (pair : ℕ × ℕ). pair.1)))
    (answers_always _ _ _ (λ f a r next called. search rules))

pub returns-clause-stable : goal.returns-clause-stable
returns-clause-stable c = c.sort_by.ensures.stable _
    (IsStrictWeakOrder-flip _ (IsStrictWeakOrder-by_number (λ (pair : ℕ × ℕ). pair.1)))
    (answers_always _ _ _ (λ f a r next called. search rules))
