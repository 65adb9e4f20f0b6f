use Rattle.lhm_ring.proofs.memory.Places.{IsLaid-none, led_to-nowhere}
use Rattle.lhm_ring.proofs.{Names.ap, Names.contents, Names.◌∙◌, rings.RingCells.IsOwned-bare}
use Rattle.lhm_ring.proofs.ring.Ring.new.Goals as goal

pub invariant_of-result : goal.invariant_of-result
invariant_of-result g c = record {
  ring = IsOwned-bare _ _ c.none-4.result c.new.ensures.cells c.none-4.ensures c.none-2.ensures c.none-3.ensures;
  laid = IsLaid-none c.new.ensures.land.0 c.new.ensures.land.1 (c.address.ensures ∙ led_to-nowhere _ c.none.ensures);
}

pub returns-clause-empty : goal.returns-clause-empty
unfolding contents
returns-clause-empty g c = ap contents c.new.ensures.cells
