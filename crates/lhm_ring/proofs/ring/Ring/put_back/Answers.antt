use Rattle.lhm_ring.proofs.Names.{IsThere, Ptr, ap, inl, pair, ring_cells, subst, sym, ◌-◌, ◌<◌, ◌∙◌}
use Rattle.lhm_ring.proofs.rings.PutBack.{IsApart-last, IsAt-last, IsAt-spare, IsOwned-last, IsSome-spare, contents-last, is_there-filled}
use Rattle.lhm_ring.proofs.rings.RingCells.{IsJoined-same, is_there-nowhere, led_to-none, led_to-some, prev_at-null}
use Rattle.lhm_ring.proofs.{memory.Places.IsLaid-same, rings.PutBack.links_at-written}
use Rattle.lhm_ring.proofs.ring.Ring.put_back.Goals as goal

pub position-at-requires : goal.position-at-requires
position-at-requires g c =
    IsSome-spare c.self.invariant.ring (subst (λ k. 0 < k) (sym (ap (λ z. z.spares) c.self.view_is)) c.requires)

pub links-old-requires : goal.links-old-requires
links-old-requires g c =
    IsAt-spare c.self.inside c.self.invariant c.self.view_is c.requires c.position-at.ensures c.position-at.result.block

pub fill-requires : goal.fill-requires
fill-requires g c = (
  _,
  links_at-written c.position-at.result.pointer.ptr _
      c.self.inside.nodes.cells c.links-old.ensures c.set_links.ensures.cells,
)

pub join-requires : goal.join-requires
join-requires g c =
    let i = c.self.inside in let at = c.position-at.result in let x = pair c.args.key c.args.value in
    let t = is_there-filled i c.self.invariant c.self.view_is c.requires c.position-at.ensures at.block
    c.links-old.ensures _ x c.set_links.ensures.cells c.fill.ensures.cells in
    let T : Ptr → Type 0 = IsThere (ring_cells i.ends c.fill.new.self.cells) in
    (subst T (prev_at-null i.ends i.nodes.cells) t.0, subst T (sym (led_to-some i.spare.ptr at.pointer.ptr c.position-at.ensures)) t.1)

pub join-requires-2 : goal.join-requires-2
join-requires-2 g c =
    let i = c.self.inside in let at = c.position-at.result in let x = pair c.args.key c.args.value in
    let t = is_there-filled i c.self.invariant c.self.view_is c.requires c.position-at.ensures at.block
    c.links-old.ensures _ x c.set_links.ensures.cells c.fill.ensures.cells in
    let T : Ptr → Type 0 = IsThere (ring_cells i.ends c.fill.new.self.cells) in (
      c.join.ensures.joined.there i.spare.ptr ∙ subst T (sym (led_to-some i.spare.ptr at.pointer.ptr c.position-at.ensures)) t.1,
      is_there-nowhere c.join.new.ends c.join.new.nodes.cells c.none-2.result.ptr c.none-2.ensures,
    )

pub list_before-requires-clause-at : goal.list_before-requires-clause-at
list_before-requires-clause-at g c =
    let i = c.self.inside in let at = c.position-at.result in let x = pair c.args.key c.args.value in
    let node = led_to-some i.spare.ptr at.pointer.ptr c.position-at.ensures in
    IsAt-last i c.self.invariant c.self.view_is c.requires c.position-at.ensures at.block
    c.links-old.ensures _ x c.set_links.ensures.cells c.fill.ensures.cells c.none.ensures
    (IsJoined-same (sym (prev_at-null i.ends i.nodes.cells)) node c.join.ensures.joined) c.join-2.new.nodes
    (IsJoined-same node (led_to-none c.none-2.result.ptr c.none-2.ensures) c.join-2.ensures.joined)

pub list_before-requires-clause-before : goal.list_before-requires-clause-before
list_before-requires-clause-before g c = inl (c.address.ensures ∙ led_to-none c.none-3.result.ptr c.none-3.ensures)

pub invariant_of-self : goal.invariant_of-self
invariant_of-self g c =
    let i = c.self.inside in let at = c.position-at.result in let x = pair c.args.key c.args.value in
    let node = led_to-some i.spare.ptr at.pointer.ptr c.position-at.ensures in
    record {
      ring = IsOwned-last i c.self.invariant c.self.view_is c.requires c.position-at.ensures at.block
          c.links-old.ensures _ x c.set_links.ensures.cells c.fill.ensures.cells c.none.ensures
          (IsJoined-same (sym (prev_at-null i.ends i.nodes.cells)) node c.join.ensures.joined) c.join-2.new.nodes
          (IsJoined-same node (led_to-none c.none-2.result.ptr c.none-2.ensures) c.join-2.ensures.joined)
          c.list_before.new.self (c.address.ensures ∙ led_to-none c.none-3.result.ptr c.none-3.ensures) c.list_before.ensures.cells;
      laid = IsLaid-same c.self.invariant.laid (c.list_before.ensures.land.0 ∙ c.join-2.ensures.land.0 ∙ c.join.ensures.land.0
          ∙ c.fill.ensures.land.0 ∙ c.set_links.ensures.land.0)
          (c.list_before.ensures.land.1 ∙ c.join-2.ensures.land.1 ∙ c.join.ensures.land.1 ∙ c.fill.ensures.land.1
          ∙ c.set_links.ensures.land.1);
    }

pub returns : goal.returns
returns g c =
    let i = c.self.inside in let at = c.position-at.result in let x = pair c.args.key c.args.value in
    let ok = c.self.invariant in let w = c.self.view_is in
    let node = led_to-some i.spare.ptr at.pointer.ptr c.position-at.ensures in
    let j = IsJoined-same (sym (prev_at-null i.ends i.nodes.cells)) node c.join.ensures.joined in
    let j₂ = IsJoined-same node (led_to-none c.none-2.result.ptr c.none-2.ensures) c.join-2.ensures.joined in
    let null = c.address.ensures ∙ led_to-none c.none-3.result.ptr c.none-3.ensures in
    record {
      last = contents-last i ok w c.requires c.position-at.ensures at.block c.links-old.ensures _ x c.set_links.ensures.cells
          c.fill.ensures.cells c.none.ensures j c.join-2.new.nodes j₂ c.list_before.new.self null c.list_before.ensures.cells;
      apart = IsApart-last i ok w c.requires c.position-at.ensures at.block c.links-old.ensures _ x c.set_links.ensures.cells
          c.fill.ensures.cells c.none.ensures j c.join-2.new.nodes j₂ c.list_before.new.self null c.list_before.ensures.cells;
      spares = ap (λ z. z.spares - 1) c.self.view_is;
      nodes = ap (λ z. z.nodes) c.self.view_is;
    }
