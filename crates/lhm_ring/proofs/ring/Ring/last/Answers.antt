use Rattle.lhm_ring.proofs.{Names.◌∙◌, rings.FirstAndLast.led_to-last, rings.Insides.IsApart-held}
use Rattle.lhm_ring.proofs.ring.Ring.last.Goals as goal

pub returns-clause-last : goal.returns-clause-last
returns-clause-last g c =
    c.get.ensures ∙ led_to-last c.self.inside c.self.invariant c.self.view_is

pub returns-clause-apart : goal.returns-clause-apart
returns-clause-apart g c = IsApart-held c.self.inside c.self.invariant c.self.view_is
