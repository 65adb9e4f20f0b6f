use Rattle.linked_hash_map.proofs.Callers.Prelude.{◌-◌, ◌^◌, values_of, IsSumSoFar}
use Rattle.uses.proofs.bids.Bids.total.Given as goal

abbrev pub invariant-loop-amount : goal.invariant-loop-amount
invariant-loop-amount l = IsSumSoFar (values_of l.self.amounts.pairs) l.amount-iterator (2 ^ 64 - 1) l.total
