use Rattle.lhm_ring.proofs.Names.{IsAt, LeadsBack, leading_back, refl, ring_cells, subst, sym}
use Rattle.lhm_ring.proofs.rings.RingCells.{IsAt-in_nodes, led_to-none, led_to-some, with_links-end, with_links-node}
use Rattle.lhm_ring.proofs.rings.Writes.{IsAt-there}
use Rattle.lhm_ring.proofs.links.set_prev.Goals as goal

pub links-links-requires : goal.links-links-requires
links-links-requires g c =
    let e = c.args.ends.now in let cs = c.args.nodes.now.cells in let p = c.in-Some.at.pointer.ptr in
    IsAt-in_nodes e cs p c.in-Some.at.block
    (subst (IsAt (ring_cells e cs)) (led_to-some c.args.at.ptr p (sym c.in-Some.ensures))
    (IsAt-there (ring_cells e cs) c.args.at.ptr c.requires))

pub returns-in-Some-clause-written : goal.returns-in-Some-clause-written
returns-in-Some-clause-written g c =
    let e = c.args.ends.now in let cs = c.args.nodes.now.cells in let p = c.in-Some.at.pointer.ptr in
    subst (λ q. LeadsBack (ring_cells e cs) q c.args.prev (ring_cells e c.set_links.new.self.cells))
    (sym (led_to-some c.args.at.ptr p (sym c.in-Some.ensures)))
    (with_links-node e cs p c.in-Some.at.block (leading_back c.args.prev) c.links-links.ensures c.set_links.ensures.cells)

pub returns-in-None-clause-written : goal.returns-in-None-clause-written
returns-in-None-clause-written g c =
    with_links-end c.args.ends.now c.args.nodes.now.cells (leading_back c.args.prev) refl
    (led_to-none c.args.at.ptr (sym c.in-None.ensures))
