use Rattle.lhm_ring.proofs.Names.{ap, length, length-map, sym, ◌∙◌}
use Rattle.lhm_ring.proofs.drain.Remaining.len.Goals as goal

pub returns : goal.returns
returns g c = sym c.self.invariant.count ∙ sym (length-map _ _) ∙ ap length c.self.view_is
