use Rattle.lhm_ring.proofs.{Names.ap, Names.refl, Names.triples, rings.RingSpans.IsSpan-ring}
use Rattle.lhm_ring.proofs.ring.Ring.into_pairs.Goals as goal

pub invariant_of-result : goal.invariant_of-result
invariant_of-result g c =
    let i = c.self.inside in
    record {
      last = i.ends.last.ptr;
      span = IsSpan-ring i.ends i.nodes.cells c.self.invariant.ring c.address.ensures refl;
      all_listed = c.self.invariant.laid.all_listed;
    }

pub returns : goal.returns
returns g c = ap (λ z. triples z.held) c.self.view_is
