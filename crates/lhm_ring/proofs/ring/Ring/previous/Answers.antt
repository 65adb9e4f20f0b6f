use Rattle.lhm_ring.proofs.{Names.◌∙◌, rings.FirstAndLast.AtHeld-previous, rings.Insides.IsApart-held, rings.Insides.IsAt-inside}
use Rattle.lhm_ring.proofs.ring.Ring.previous.Goals as goal

pub links-requires : goal.links-requires
links-requires g c = IsAt-inside c.self.inside c.self.invariant c.self.view_is c.requires

pub returns-clause-previous : goal.returns-clause-previous
returns-clause-previous g c xs t ys h at =
    c.get.ensures ∙ AtHeld-previous c.self.inside c.self.invariant c.self.view_is c.args.at.block c.links.ensures xs t ys h at

pub returns-clause-apart : goal.returns-clause-apart
returns-clause-apart g c = IsApart-held c.self.inside c.self.invariant c.self.view_is
