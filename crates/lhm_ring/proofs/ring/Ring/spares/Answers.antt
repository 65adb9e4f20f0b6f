use Rattle.lhm_ring.proofs.rings.Insides.{length-bounded, length-within}
use Rattle.lhm_ring.proofs.ring.Ring.spares.Goals as goal

pub returns-clause-bounded : goal.returns-clause-bounded
returns-clause-bounded g c = length-bounded c.self.inside c.self.invariant c.self.view_is

pub returns-clause-within : goal.returns-clause-within
returns-clause-within g c = length-within c.self.inside c.self.invariant c.self.view_is
