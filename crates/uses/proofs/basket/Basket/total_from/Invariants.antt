use Rattle.linked_hash_map.proofs.Callers.Prelude.{◌-◌, ◌^◌, nat_eq, from, values_of, IsSumSoFar}
use Rattle.uses.proofs.basket.Basket.total_from.Given as goal

abbrev pub invariant-loop-article : goal.invariant-loop-article
invariant-loop-article l = IsSumSoFar (values_of (from nat_eq l.self.prices.pairs l.fn.article))
    (values_of l._article-iterator) (2 ^ 64 - 1) l.total
