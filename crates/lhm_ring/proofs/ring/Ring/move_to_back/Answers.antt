use Rattle.lhm_ring.proofs.Names.{IsHeld, [], ap, append-nil, inl, null_ptr, refl, sym, ◌++◌, ◌∙◌}
use Rattle.lhm_ring.proofs.rings.Insides.{IsApart-held, IsAt-inside}
use Rattle.lhm_ring.proofs.rings.Moves.{IsAt-placed, IsOwned-placed, PlaceIn-first, contents-placed, is_there-moved, is_there-neighbours}
use Rattle.lhm_ring.proofs.rings.RingCells.{is_there-nowhere, led_to-none, prev_at-null}
use Rattle.lhm_ring.proofs.{memory.Places.IsLaid-same, rings.Moves.is_there-previous}
use Rattle.lhm_ring.proofs.ring.Ring.move_to_back.Goals as goal

pub links-links-requires : goal.links-links-requires
links-links-requires g c = IsAt-inside c.self.inside c.self.invariant c.self.view_is c.requires

pub join-requires : goal.join-requires
join-requires g c =
    is_there-neighbours c.self.inside c.self.invariant c.self.view_is c.args.at.block c.requires c.links-links.ensures

pub join-requires-2 : goal.join-requires-2
join-requires-2 g c =
    let i = c.self.inside in let ok = c.self.invariant in let w = c.self.view_is in let b = c.args.at.block in
    let h = c.requires in let e = c.links-links.ensures in let j = c.join.ensures.joined in
    let place = PlaceIn-first i ok w b h e j (h.before ++ h.after) [] (sym (append-nil (h.before ++ h.after))) {b = null_ptr} refl in (
      is_there-previous i ok w b h e j place (sym (prev_at-null c.join.new.ends c.join.new.nodes.cells)),
      is_there-moved i ok w b h e j c.to-moved.result.ptr c.to-moved.ensures,
    )

pub join-requires-3 : goal.join-requires-3
join-requires-3 g c =
    let i = c.self.inside in let ok = c.self.invariant in let w = c.self.view_is in let b = c.args.at.block in
    let h = c.requires in let e = c.links-links.ensures in let j = c.join.ensures.joined in (
      c.join-2.ensures.joined.there c.to-moved.result.ptr ∙ is_there-moved i ok w b h e j c.to-moved.result.ptr c.to-moved.ensures,
      is_there-nowhere c.join-2.new.ends c.join-2.new.nodes.cells c.none.result.ptr c.none.ensures,
    )

pub list_before-requires-clause-at : goal.list_before-requires-clause-at
list_before-requires-clause-at g c =
    let i = c.self.inside in let ok = c.self.invariant in let w = c.self.view_is in let b = c.args.at.block in
    let h = c.requires in let e = c.links-links.ensures in let j = c.join.ensures.joined in
    let place = PlaceIn-first i ok w b h e j (h.before ++ h.after) [] (sym (append-nil (h.before ++ h.after))) {b = null_ptr} refl in
    IsAt-placed i ok w b h e j place (led_to-none c.none.result.ptr c.none.ensures) c.to-moved.ensures
    (sym (prev_at-null c.join.new.ends c.join.new.nodes.cells)) c.join-3.new.nodes c.join-2.ensures.joined c.join-3.ensures.joined

pub list_before-requires-clause-before : goal.list_before-requires-clause-before
list_before-requires-clause-before g c = inl (c.address.ensures ∙ led_to-none c.none-2.result.ptr c.none-2.ensures)

pub invariant_of-self : goal.invariant_of-self
invariant_of-self g c =
    let i = c.self.inside in let ok = c.self.invariant in let w = c.self.view_is in let b = c.args.at.block in
    let h = c.requires in let e = c.links-links.ensures in let j = c.join.ensures.joined in
    let place = PlaceIn-first i ok w b h e j (h.before ++ h.after) [] (sym (append-nil (h.before ++ h.after))) {b = null_ptr} refl in
    record {
      ring = IsOwned-placed i ok w b h e j place (led_to-none c.none.result.ptr c.none.ensures) c.to-moved.ensures
          (sym (prev_at-null c.join.new.ends c.join.new.nodes.cells)) c.join-3.new.nodes c.join-2.ensures.joined c.join-3.ensures.joined
          c.list_before.new.self (c.address.ensures ∙ led_to-none c.none-2.result.ptr c.none-2.ensures
          ∙ sym (led_to-none c.none.result.ptr c.none.ensures)) c.list_before.ensures.cells;
      laid = IsLaid-same c.self.invariant.laid (c.list_before.ensures.land.0 ∙ c.join-3.ensures.land.0 ∙ c.join-2.ensures.land.0
          ∙ c.join.ensures.land.0) (c.list_before.ensures.land.1 ∙ c.join-3.ensures.land.1 ∙ c.join-2.ensures.land.1
          ∙ c.join.ensures.land.1);
    }

pub returns : goal.returns
returns g c =
    let i = c.self.inside in let ok = c.self.invariant in let w = c.self.view_is in let b = c.args.at.block in
    let e = c.links-links.ensures in let j = c.join.ensures.joined in
    record {
      last = λ xs t ys is at.
          let h : IsHeld c.args.self.now.held c.args.at.pointer.ptr = record { before = xs; node = t; after = ys; is = is; at_is = at } in
          let place = PlaceIn-first i ok w b h e j (xs ++ ys) [] (sym (append-nil (xs ++ ys))) {b = null_ptr} refl in
          contents-placed i ok w b h e j place (led_to-none c.none.result.ptr c.none.ensures) c.to-moved.ensures
          (sym (prev_at-null c.join.new.ends c.join.new.nodes.cells)) c.join-3.new.nodes c.join-2.ensures.joined c.join-3.ensures.joined
          c.list_before.new.self (c.address.ensures ∙ led_to-none c.none-2.result.ptr c.none-2.ensures
          ∙ sym (led_to-none c.none.result.ptr c.none.ensures)) c.list_before.ensures.cells;
      spares = ap (λ z. z.spares) c.self.view_is;
      nodes = ap (λ z. z.nodes) c.self.view_is;
      apart = IsApart-held i ok w;
    }
