use Rattle.linked_hash_map.proofs.Callers.Prelude.{◌≡◌, ◌+◌, sum, values_of}
use Rattle.uses.proofs.loops.sum_of.Given as goal

abbrev pub invariant-loop-price : goal.invariant-loop-price
invariant-loop-price g l =
    l.total + sum (values_of l.price-iterator) ≡ sum (values_of l.fn.prices.pairs)
