use Rattle.lhm_ring.proofs.rings.Insides.{counts-seen, length-bounded, length-within}
use Rattle.lhm_ring.proofs.ring.Ring.len.Goals as goal

pub returns : goal.returns
returns g c = record {
  value = (counts-seen c.self.inside c.self.invariant c.self.view_is).held;
  bounded = length-bounded c.self.inside c.self.invariant c.self.view_is;
  within = length-within c.self.inside c.self.invariant c.self.view_is;
}
