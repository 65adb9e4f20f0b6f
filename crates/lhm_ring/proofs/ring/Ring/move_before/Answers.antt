use Rattle.lhm_ring.proofs.rings.Moves.{IsAt-placed, IsOwned-placed, IsPlaceFor-placed, PlaceIn-before, PlaceIn-first, PlaceIn-own}
use Rattle.lhm_ring.proofs.rings.Moves.{contents-placed, first_from-place, is_there-before, is_there-moved, is_there-neighbours}
use Rattle.lhm_ring.proofs.rings.{Insides.IsApart-held, Insides.IsAt-inside, Moves.is_there-next, Moves.is_there-previous}
use Rattle.lhm_ring.proofs.{Names.IsHeld, Names.IsPlaceFor, Names.subst, Names.sym, Names.◌∙◌, memory.Places.IsLaid-same}
use Rattle.lhm_ring.proofs.ring.Ring.move_before.Goals as goal

pub links-links-requires : goal.links-links-requires
links-links-requires g c = IsAt-inside c.self.inside c.self.invariant c.self.view_is c.requires.at

pub join-requires : goal.join-requires
join-requires g c =
    is_there-neighbours c.self.inside c.self.invariant c.self.view_is c.args.at.block c.requires.at c.links-links.ensures

pub prev_of-previous-requires : goal.prev_of-previous-requires
prev_of-previous-requires g c =
    let i = c.self.inside in let ok = c.self.invariant in let w = c.self.view_is in let b = c.args.at.block in
    let h = c.requires.at in let e = c.links-links.ensures in let j = c.join.ensures.joined in
    is_there-before i ok w b h e j _ c.args.before c.of-place.ensures c.requires.before

pub next_of-next-requires : goal.next_of-next-requires
next_of-next-requires g c =
    let i = c.self.inside in let ok = c.self.invariant in let w = c.self.view_is in let b = c.args.at.block in
    let h = c.requires.at in let e = c.links-links.ensures in let j = c.join.ensures.joined in
    let place = PlaceIn-before i ok w b h e j c.args.before c.of-place.ensures c.requires.before in
    is_there-previous i ok w b h e j place c.prev_of-previous.ensures

pub join-requires-2 : goal.join-requires-2
join-requires-2 g c =
    let i = c.self.inside in let ok = c.self.invariant in let w = c.self.view_is in let b = c.args.at.block in
    let h = c.requires.at in let e = c.links-links.ensures in let j = c.join.ensures.joined in
    let place = PlaceIn-before i ok w b h e j c.args.before c.of-place.ensures c.requires.before in (
      is_there-previous i ok w b h e j place c.prev_of-previous.ensures,
      is_there-moved i ok w b h e j c.to-moved.result.ptr c.to-moved.ensures,
    )

pub join-requires-3 : goal.join-requires-3
join-requires-3 g c =
    let i = c.self.inside in let ok = c.self.invariant in let w = c.self.view_is in let b = c.args.at.block in
    let h = c.requires.at in let e = c.links-links.ensures in let j = c.join.ensures.joined in
    let place = PlaceIn-before i ok w b h e j c.args.before c.of-place.ensures c.requires.before in (
      c.join-2.ensures.joined.there c.to-moved.result.ptr ∙ is_there-moved i ok w b h e j c.to-moved.result.ptr c.to-moved.ensures,
      c.join-2.ensures.joined.there c.next_of-next.result.ptr ∙ is_there-next i ok w b h e j place
          (first_from-place i ok w b h e j place c.prev_of-previous.ensures c.next_of-next.ensures),
    )

pub list_before-requires-clause-at : goal.list_before-requires-clause-at
list_before-requires-clause-at g c =
    let i = c.self.inside in let ok = c.self.invariant in let w = c.self.view_is in let b = c.args.at.block in
    let h = c.requires.at in let e = c.links-links.ensures in let j = c.join.ensures.joined in
    let place = PlaceIn-before i ok w b h e j c.args.before c.of-place.ensures c.requires.before in
    IsAt-placed i ok w b h e j place
    (first_from-place i ok w b h e j place c.prev_of-previous.ensures c.next_of-next.ensures)
    c.to-moved.ensures c.prev_of-previous.ensures c.join-3.new.nodes c.join-2.ensures.joined c.join-3.ensures.joined

pub list_before-requires-clause-before : goal.list_before-requires-clause-before
list_before-requires-clause-before g c =
    let i = c.self.inside in let ok = c.self.invariant in let w = c.self.view_is in let b = c.args.at.block in
    let h = c.requires.at in let e = c.links-links.ensures in let j = c.join.ensures.joined in
    let place = PlaceIn-before i ok w b h e j c.args.before c.of-place.ensures c.requires.before in
    subst (IsPlaceFor c.join-3.new.nodes.cells c.args.at.pointer.ptr) (sym c.address.ensures)
    (IsPlaceFor-placed i ok w b h e j place (first_from-place i ok w b h e j place c.prev_of-previous.ensures c.next_of-next.ensures)
    c.to-moved.ensures c.prev_of-previous.ensures c.join-3.new.nodes c.join-2.ensures.joined c.join-3.ensures.joined)

pub invariant_of-self : goal.invariant_of-self
invariant_of-self g c =
    let i = c.self.inside in let ok = c.self.invariant in let w = c.self.view_is in let b = c.args.at.block in
    let h = c.requires.at in let e = c.links-links.ensures in let j = c.join.ensures.joined in
    let place = PlaceIn-before i ok w b h e j c.args.before c.of-place.ensures c.requires.before in
    record {
      ring = IsOwned-placed i ok w b h e j place (first_from-place i ok w b h e j place c.prev_of-previous.ensures c.next_of-next.ensures)
          c.to-moved.ensures c.prev_of-previous.ensures c.join-3.new.nodes c.join-2.ensures.joined c.join-3.ensures.joined
          c.list_before.new.self c.address.ensures c.list_before.ensures.cells;
      laid = IsLaid-same c.self.invariant.laid (c.list_before.ensures.land.0 ∙ c.join-3.ensures.land.0 ∙ c.join-2.ensures.land.0
          ∙ c.join.ensures.land.0) (c.list_before.ensures.land.1 ∙ c.join-3.ensures.land.1 ∙ c.join-2.ensures.land.1
          ∙ c.join.ensures.land.1);
    }

pub returns-clause-moved : goal.returns-clause-moved
returns-clause-moved g c xs t ys is at us vs cut to =
    let i = c.self.inside in let ok = c.self.invariant in let w = c.self.view_is in let b = c.args.at.block in
    let h : IsHeld c.args.self.now.held c.args.at.pointer.ptr = record { before = xs; node = t; after = ys; is = is; at_is = at } in
    let e = c.links-links.ensures in let j = c.join.ensures.joined in
    let place = PlaceIn-first i ok w b h e j us vs cut (c.of-place.ensures ∙ to) in
    contents-placed i ok w b h e j place (first_from-place i ok w b h e j place c.prev_of-previous.ensures c.next_of-next.ensures)
    c.to-moved.ensures c.prev_of-previous.ensures c.join-3.new.nodes c.join-2.ensures.joined c.join-3.ensures.joined
    c.list_before.new.self c.address.ensures c.list_before.ensures.cells

pub returns-clause-stays : goal.returns-clause-stays
returns-clause-stays g c own =
    let i = c.self.inside in let ok = c.self.invariant in let w = c.self.view_is in let b = c.args.at.block in
    let h = c.requires.at in let e = c.links-links.ensures in let j = c.join.ensures.joined in
    let place = PlaceIn-own i ok w b h e j (c.of-place.ensures ∙ own) in
    contents-placed i ok w b h e j place (first_from-place i ok w b h e j place c.prev_of-previous.ensures c.next_of-next.ensures)
    c.to-moved.ensures c.prev_of-previous.ensures c.join-3.new.nodes c.join-2.ensures.joined c.join-3.ensures.joined
    c.list_before.new.self c.address.ensures c.list_before.ensures.cells ∙ sym h.is

pub returns-clause-apart : goal.returns-clause-apart
returns-clause-apart g c = IsApart-held c.self.inside c.self.invariant c.self.view_is
