use Rattle.lhm_ring.proofs.Names.{IsOwned, IsSpan, ap, cleared, contents, holders, refl, ring_cells, state, subst, sym, triples}
use Rattle.lhm_ring.proofs.rings.{Contents.contents-cleared, Contents.pointers_of, Insides.counts-seen}
use Rattle.lhm_ring.proofs.{Names.with_bodies, Names.◌+◌, Names.◌∙◌, memory.NodesWithBodies.with_bodies-own, memory.Places.IsLaid-same}
use Rattle.lhm_ring.proofs.ring.Ring.splice_all.Goals as goal

pub splice-requires : goal.splice-requires
splice-requires g c = let i = c.self.inside in (holders i.nodes.cells, (i.spares, c.self.invariant.ring))

pub invariant_of-result : goal.invariant_of-result
unfolding contents
invariant_of-result g c =
    let i = c.self.inside in let e = c.lend_bodies-anchor.ensures in let nodes = c.splice.new.nodes in let r = c.splice.result in
    subst (λ zs. IsSpan zs (contents zs) r.first.ptr r.last.ptr i.len)
    (sym ((λ j. with_bodies (e.cells j) (e.run j)) ∙ with_bodies-own nodes.cells nodes.apart))
    (c.splice.ensures.row i.spares c.self.invariant.ring).0

pub invariant_of-self-lent : goal.invariant_of-self-lent
invariant_of-self-lent g c = λ w. record {
  ring = let i = c.self.inside in let cs = c.splice.new.nodes.cells in
      subst (λ qs. IsOwned (ring_cells c.splice.new.ends (cleared cs)) qs c.splice.result.spare 0 (i.spares + i.len))
      (sym (ap pointers_of (contents-cleared cs))) (c.splice.ensures.spliced (holders i.nodes.cells) i.spares c.self.invariant.ring);
  laid = IsLaid-same c.self.invariant.laid (c.splice.ensures.land.0) (c.splice.ensures.land.1);
}

pub returns : goal.returns
unfolding contents
returns g c =
    let i = c.self.inside in let e = c.lend_bodies-anchor.ensures in let nodes = c.splice.new.nodes in
    let long = (counts-seen c.self.inside c.self.invariant c.self.view_is).held in
    let same = (λ j. with_bodies (e.cells j) (e.run j)) ∙ with_bodies-own nodes.cells nodes.apart in (
      (
        refl,
        λ w. λ j. state (contents-cleared nodes.cells j) ((c.self.view_is j).spares + long j) (c.self.view_is j).nodes,
      ),
      record {
        writes_back = tt;
        rest = ap (λ zs. triples (contents zs)) same ∙ (c.splice.ensures.row i.spares c.self.invariant.ring).1
            ∙ ap (λ z. triples z.held) c.self.view_is;
      },
    )
