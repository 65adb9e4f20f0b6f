use Rattle.lhm_ring.proofs.{Names.ap, Names.◌∙◌, rings.RingSpans.IsSpan-ring, rings.Spans.HasSpan-whole, rings.Spans.span-part}
use Rattle.lhm_ring.proofs.ring.Ring.iter.Goals as goal

pub invariant_of-result : goal.invariant_of-result
invariant_of-result g c = let i = c.self.inside in
    HasSpan-whole (IsSpan-ring i.ends i.nodes.cells c.self.invariant.ring c.address.ensures c.address-2.ensures)

pub returns : goal.returns
returns g c = let i = c.self.inside in
    span-part i.nodes.apart (HasSpan-whole (IsSpan-ring i.ends i.nodes.cells c.self.invariant.ring c.address.ensures c.address-2.ensures))
    ∙ ap (λ z. z.held) c.self.view_is
