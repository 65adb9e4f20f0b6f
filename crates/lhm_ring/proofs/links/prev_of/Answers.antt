use Rattle.lhm_ring.proofs.Names.{IsAt, ap, prev_at, prev_of, ring_cells, subst, sym, ◌∙◌}
use Rattle.lhm_ring.proofs.rings.RingCells.{IsAt-in_nodes, led_to-none, led_to-some, links_at-ring_cells, prev_at-null}
use Rattle.lhm_ring.proofs.rings.Writes.{IsAt-there}
use Rattle.lhm_ring.proofs.links.prev_of.Goals as goal

pub links-requires : goal.links-requires
links-requires g c =
    let e = c.args.ends.now in let cs = c.args.nodes.now.cells in let p = c.in-Some.at.pointer.ptr in
    IsAt-in_nodes e cs p c.in-Some.at.block
    (subst (IsAt (ring_cells e cs)) (led_to-some c.args.at.ptr p (sym c.in-Some.ensures))
    (IsAt-there (ring_cells e cs) c.args.at.ptr c.requires))

pub returns-in-Some : goal.returns-in-Some
returns-in-Some g c =
    let e = c.args.ends.now in let cs = c.args.nodes.now.cells in let p = c.in-Some.at.pointer.ptr in
    sym (ap (prev_at (ring_cells e cs)) (led_to-some c.args.at.ptr p (sym c.in-Some.ensures))
    ∙ ap prev_of (links_at-ring_cells e cs p c.in-Some.at.block ∙ c.links.ensures))

pub returns-in-None : goal.returns-in-None
returns-in-None g c =
    let e = c.args.ends.now in let cs = c.args.nodes.now.cells in
    sym (ap (prev_at (ring_cells e cs)) (led_to-none c.args.at.ptr (sym c.in-None.ensures)) ∙ prev_at-null e cs)
