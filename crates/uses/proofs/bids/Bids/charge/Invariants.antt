use Rattle.linked_hash_map.proofs.Callers.Prelude.{◌-◌, length, to_visit, VisitMaps}
use Rattle.std.proofs.Common.{nat_lt}
use Rattle.uses.proofs.bids.Bids.charge.Given as goal

abbrev pub invariant-loop-bid : goal.invariant-loop-bid
invariant-loop-bid l = VisitMaps (λ bid. nat_lt l.fee bid.1) (λ bid. bid.1 - l.fee)
    l.fn.self.amounts.pairs l.bids.pairs (to_visit l.bids)

abbrev pub decreases-loop-bid : goal.decreases-loop-bid
decreases-loop-bid l = length (to_visit l.bids)
