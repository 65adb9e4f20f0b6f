use Rattle.lhm_ring.proofs.{Names.◌∙◌, rings.FirstAndLast.led_to-first}
use Rattle.lhm_ring.proofs.ring.Ring.first.Goals as goal

pub returns : goal.returns
returns g c =
    c.get.ensures ∙ led_to-first c.self.inside c.self.invariant c.self.view_is
