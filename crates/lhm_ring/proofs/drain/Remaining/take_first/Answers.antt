use Rattle.lhm_ring.proofs.Names.{ap, nil_from_length, sym, triples, with_bodies, ◌∙◌}
use Rattle.lhm_ring.proofs.memory.NodesWithBodies.{IsApart-with_bodies, body_at-with_bodies, links_at-with_bodies}
use Rattle.lhm_ring.proofs.memory.NodesWithBodies.{with_bodies-without_body}
use Rattle.lhm_ring.proofs.rings.Spans.{HasSpan-whole, Holds-first, IsAt-first, IsSpan-rest_of_first, triples-first_taken}
use Rattle.lhm_ring.proofs.drain.Remaining.take_first.Goals as goal

pub returns-then-self-eq0 : goal.returns-then-self-eq0
returns-then-self-eq0 g c =
    let e = sym c.self.view_is ∙ ap triples (nil_from_length _ (c.self.invariant.count ∙ c.if-self-eq0.true)) in (e, e)

pub links-links-requires : goal.links-links-requires
links-links-requires g c =
    let i = c.self.inside in let cs = i.nodes.now.cells in let run = i.contents.run in
    let h = IsAt-first (IsApart-with_bodies cs run i.nodes.now.apart) (HasSpan-whole c.self.invariant) c.if-self-eq0.false in
    (h.0, sym (links_at-with_bodies cs run i.first.ptr) ∙ h.1)

pub take-key-requires : goal.take-key-requires
take-key-requires g c =
    let i = c.self.inside in let cs = i.nodes.now.cells in let run = i.contents.run in
    let h = Holds-first (IsApart-with_bodies cs run i.nodes.now.apart) (HasSpan-whole c.self.invariant) c.if-self-eq0.false in
    (h.0, sym (body_at-with_bodies cs run i.first.ptr _ c.links-links.ensures) ∙ h.1)

pub invariant_of-self : goal.invariant_of-self
invariant_of-self g c =
    let i = c.self.inside in let cs = i.nodes.now.cells in let run = i.contents.run in
    IsSpan-rest_of_first (IsApart-with_bodies cs run i.nodes.now.apart) c.self.invariant c.if-self-eq0.false
    (links_at-with_bodies cs run i.first.ptr ∙ c.links-links.ensures) c.address-self-inside.ensures
    (ap (with_bodies cs) c.take-key.ensures.run ∙ with_bodies-without_body i.first.ptr run cs i.nodes.now.apart)

pub returns : goal.returns
returns g c =
    let i = c.self.inside in let cs = i.nodes.now.cells in let run = i.contents.run in
    sym c.self.view_is ∙ triples-first_taken (IsApart-with_bodies cs run i.nodes.now.apart) c.self.invariant c.if-self-eq0.false
    (links_at-with_bodies cs run i.first.ptr ∙ c.links-links.ensures)
    (body_at-with_bodies cs run i.first.ptr _ c.links-links.ensures ∙ c.take-key.ensures.body)
    (ap (with_bodies cs) c.take-key.ensures.run ∙ with_bodies-without_body i.first.ptr run cs i.nodes.now.apart)
