use Rattle.lhm_ring.proofs.rings.Spans.{HasSpan-behind_first, Holds-first, IsAt-first, span-first}
use Rattle.lhm_ring.proofs.{Names.ap, Names.span, Names.sym, Names.◌∙◌, rings.IteratorSteps.Some-both}
use Rattle.lhm_ring.proofs.iter.Iter.step.Goals as goal

pub returns-then-self-eq0 : goal.returns-then-self-eq0
returns-then-self-eq0 g c =
    let i = c.self.inside in
    let e = sym c.self.view_is ∙ ap (λ k. span i.nodes.now.cells k i.first.ptr) c.if-self-eq0.true in (e, e)

pub links-links-requires : goal.links-links-requires
links-links-requires g c = IsAt-first c.self.inside.nodes.now.apart c.self.invariant c.if-self-eq0.false

pub key-requires : goal.key-requires
key-requires g c = Holds-first c.self.inside.nodes.now.apart c.self.invariant c.if-self-eq0.false

pub invariant_of-self : goal.invariant_of-self
invariant_of-self g c = HasSpan-behind_first c.self.inside.nodes.now.apart c.self.invariant c.if-self-eq0.false c.links-links.ensures
    c.address-self-inside.ensures

pub returns : goal.returns
returns g c =
    let k = c.key.ensures in let v = c.value.ensures in (
      _,
      sym c.self.view_is ∙ span-first c.self.inside.nodes.now.apart c.self.invariant c.if-self-eq0.false c.links-links.ensures
          c.address-self-inside.ensures (Some-both _ c.key.result.now v.0 k.0 c.value.result.now k.1 v.1),
    )
