use Rattle.lhm_ring.proofs.Names.{IsHeld, IsOwned, ap, cell, chaining_to, links_of, ring_cells, subst, sym, ◌∙◌}
use Rattle.lhm_ring.proofs.rings.ContentChange.{IsOwned-chained, content-linked}
use Rattle.lhm_ring.proofs.rings.Insides.{AreBlocks-held, IsAt-inside, NodeAt-held, contents-inside, cut-inside, holders-inside}
use Rattle.lhm_ring.proofs.rings.RingCells.{ChainsTo-ring_cells, links_at-ring_cells}
use Rattle.lhm_ring.proofs.{memory.Places.IsLaid-same, rings.Contents.cell_at-held, rings.NodeOut.IsFresh-spares}
use Rattle.lhm_ring.proofs.ring.Ring.set_link.Goals as goal

pub set_chain-requires : goal.set_chain-requires
set_chain-requires g c = IsAt-inside c.self.inside c.self.invariant c.self.view_is c.requires

pub invariant_of-self : goal.invariant_of-self
invariant_of-self g c =
    let i = c.self.inside in let h = c.requires in let p = c.args.at.pointer.ptr in let ok = c.self.invariant.ring in
    let k = cut-inside i c.self.invariant c.self.view_is h in let zs = c.set_chain.new.nodes.cells in
    let e = c.set_chain.ensures.written in let read = ap links_of (cell_at-held k h.at_is i.nodes.apart) in
    let same = holders-inside i c.self.invariant c.self.view_is h (λ d. cell d.at (chaining_to c.args.link k.node.links) d.body)
    (content-linked k.node c.args.link k.here) (e k.node.links read) h.at_is in
    let there = links_at-ring_cells i.ends i.nodes.cells p c.args.at.block ∙ read in
    record {
      ring = subst (λ qs. IsOwned (ring_cells i.ends zs) qs i.spare i.len i.spares) (sym same)
          (IsOwned-chained ok p (k.node.links, there) c.args.link (IsFresh-spares ok.ring (NodeAt-held i c.self.invariant c.self.view_is h))
          (ChainsTo-ring_cells i.ends i.nodes.cells p c.args.at.block c.args.link zs e k.node.links there));
      laid = IsLaid-same c.self.invariant.laid (c.set_chain.ensures.land.0) (c.set_chain.ensures.land.1);
    }

pub returns : goal.returns
returns g c = record {
  held = λ xs t ys is at.
      let i = c.self.inside in let w = c.self.view_is in
      let h : IsHeld c.args.self.now.held c.args.at.pointer.ptr = record { before = xs; node = t; after = ys; is = is; at_is = at } in
      let k = cut-inside i c.self.invariant w h in
      contents-inside i c.self.invariant w h (λ d. cell d.at (chaining_to c.args.link k.node.links) d.body)
      (content-linked k.node c.args.link k.here)
      (c.set_chain.ensures.written k.node.links (ap links_of (cell_at-held k at i.nodes.apart)));
  spares = ap (λ z. z.spares) c.self.view_is;
  nodes = ap (λ z. z.nodes) c.self.view_is;
  blocks = AreBlocks-held c.self.inside c.self.invariant c.self.view_is;
}
