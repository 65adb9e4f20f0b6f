use Rattle.linked_hash_map.proofs.Callers.Prelude.{◌-◌, ◌^◌, values_of, IsSumSoFar}
use Rattle.uses.proofs.basket.Basket.total.Given as goal

abbrev pub invariant-loop-article : goal.invariant-loop-article
invariant-loop-article l = IsSumSoFar (values_of l.self.prices.pairs) (values_of l._article-iterator) (2 ^ 64 - 1) l.total
