use Rattle.lhm_ring.proofs.rings.Insides.{IsAt-inside, hash-inside, link-inside}
use Rattle.lhm_ring.proofs.ring.Ring.links.Goals as goal

pub links-requires : goal.links-requires
links-requires g c = IsAt-inside c.self.inside c.self.invariant c.self.view_is c.requires

pub returns : goal.returns
returns g c = record {
  hash = hash-inside c.self.inside c.self.invariant c.self.view_is c.args.at.pointer.ptr c.links.ensures;
  link = link-inside c.self.inside c.self.invariant c.self.view_is c.args.at.pointer.ptr c.links.ensures;
}
