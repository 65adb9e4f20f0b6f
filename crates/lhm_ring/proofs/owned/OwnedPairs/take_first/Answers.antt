use Rattle.lhm_ring.proofs.rings.Spans.{HasSpan-whole, Holds-first, IsAt-first, IsSpan-rest_of_first, triples-first_taken}
use Rattle.lhm_ring.proofs.{Names.ap, Names.nil_from_length, Names.sym, Names.triples, Names.◌∙◌, memory.Places.IsChain-same}
use Rattle.lhm_ring.proofs.owned.OwnedPairs.take_first.Goals as goal

pub returns-then-self-eq0 : goal.returns-then-self-eq0
returns-then-self-eq0 g c =
    let e = sym c.self.view_is ∙ ap triples (nil_from_length _ (c.self.invariant.span.count ∙ c.if-self-eq0.true)) in (e, e)

pub links-links-requires : goal.links-links-requires
links-links-requires g c = IsAt-first c.self.inside.nodes.apart (HasSpan-whole c.self.invariant.span) c.if-self-eq0.false

pub take-key-requires : goal.take-key-requires
take-key-requires g c = Holds-first c.self.inside.nodes.apart (HasSpan-whole c.self.invariant.span) c.if-self-eq0.false

pub invariant_of-self : goal.invariant_of-self
invariant_of-self g c =
    let i = c.self.inside in let s = c.self.invariant in let out = c.take-key.ensures in
    record {
      last = s.last;
      span = IsSpan-rest_of_first i.nodes.apart s.span c.if-self-eq0.false c.links-links.ensures c.address-self-inside.ensures out.cells;
      all_listed = IsChain-same _ s.all_listed out.land.1;
    }

pub returns : goal.returns
returns g c =
    sym c.self.view_is ∙ triples-first_taken c.self.inside.nodes.apart c.self.invariant.span c.if-self-eq0.false c.links-links.ensures
    c.take-key.ensures.body c.take-key.ensures.cells
