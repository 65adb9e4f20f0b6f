use Rattle.lhm_ring.proofs.Names.{ap, arith, pointer_of_some, ◌∙◌}
use Rattle.lhm_ring.proofs.indexes.Searches.{FindsKey-part, FindsNone-part, IsHeld-part, IsPart-more, visited-below}
use Rattle.lhm_ring.proofs.index.Index.search_on.Goals as goal

pub step-requires-clause-held : goal.step-requires-clause-held
step-requires-clause-held g c = IsHeld-part c.loop-pointer.invariant (ap pointer_of_some c.in-Some.is)

pub step-requires-clause-no_overflow : goal.step-requires-clause-no_overflow
step-requires-clause-no_overflow g c =
    omega (
      arith,
      visited-below c.loop-pointer.invariant (ap pointer_of_some c.in-Some.is),
      c.requires.small,
    )

pub returns-then-step-clause-found : goal.returns-then-step-clause-found
returns-then-step-clause-found g c = FindsKey-part c.loop-pointer.invariant
    (ap pointer_of_some c.in-Some.is) c.step.ensures.visited c.step.ensures.compared
    c.step.ensures.found c.if-step.true

pub links-requires : goal.links-requires
links-requires g c = IsHeld-part c.loop-pointer.invariant (ap pointer_of_some c.in-Some.is)

pub loop-pointer-smaller : goal.loop-pointer-smaller
loop-pointer-smaller g c = omega (arith, visited-below c.loop-pointer.invariant (ap pointer_of_some c.in-Some.is), c.step.ensures.visited)

pub loop-pointer-preserved : goal.loop-pointer-preserved
loop-pointer-preserved g c = IsPart-more c.loop-pointer.invariant (ap pointer_of_some c.in-Some.is)
    c.step.ensures.visited c.step.ensures.compared c.step.ensures.found c.if-step.false
    (λ b x a i j. c.get-pointer.ensures ∙ c.links.ensures.link b x a i j)

pub returns-clause-absent : goal.returns-clause-absent
returns-clause-absent g c = FindsNone-part c.loop-pointer.invariant (ap pointer_of_some c.in_default.is)
