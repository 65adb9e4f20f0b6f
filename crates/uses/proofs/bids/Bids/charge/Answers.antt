use Rattle.linked_hash_map.proofs.Callers.Prelude.{rules, arith, refl}
use Rattle.std.proofs.lemmas.Bool.Decides.{nat_tests}
use Rattle.linked_hash_map.proofs.Callers.NumberRules.{VisitMaps-written_number, VisitMaps-removed_number}
use Rattle.uses.proofs.bids.Bids.charge.Goals as goal

pub loop-bid-preserved-then-fee-amount : goal.loop-bid-preserved-then-fee-amount
loop-bid-preserved-then-fee-amount c = let e = c.in-Some.ensures in
    VisitMaps-written_number c.loop-bid.invariant e.visits e.valid.distinct e.value e.pairs
    (grind (arith, nat_tests, c.get-amount.ensures)) refl (search rules) (search rules)

pub loop-bid-preserved : goal.loop-bid-preserved
loop-bid-preserved c = let e = c.in-Some.ensures in
    VisitMaps-removed_number c.loop-bid.invariant e.visits e.valid.distinct e.value e.pairs
    (grind (arith, nat_tests, c.get-amount.ensures)) (search rules) (search rules)
