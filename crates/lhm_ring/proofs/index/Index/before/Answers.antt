use Rattle.lhm_ring.proofs.Names.{None, ap, arith, get_or, is_some, linked_to, pointer_of, pointer_of_some, sym, target, ◌++◌, ◌∙◌, ◌∷◌}
use Rattle.lhm_ring.proofs.indexes.NodeBefore.{IsHeld-towards, IsHeld-towards_cut, IsOnChain-towards, IsTowards-next, IsTowards-start}
use Rattle.lhm_ring.proofs.indexes.NodeBefore.{get_or-head, nodes-mended, passed-below}
use Rattle.lhm_ring.proofs.index.Index.before.Goals as goal

pub position-here-requires : goal.position-here-requires
position-here-requires g c =
    let h = get_or-head c.requires.indexed.chains c.requires.held c.requires.hash in
    ap is_some (c.head-head.ensures ∙ ap (λ b. get_or c.args.self.now.heads b None) c.bucket_of.ensures.of_hash ∙ h.1)

pub chain-init : goal.chain-init
chain-init g c = record {
  towards = IsTowards-start c.requires.indexed.chains c.requires.held c.requires.hash c.set_link.new.self.held
      (target c.links.result.now.link) (pointer_of c.position-here.result) c.links.ensures.link
      (λ xs t ys e at. c.set_link.ensures.held xs t ys e at ∙ ap (λ o. xs ++ linked_to o t ∷ ys) c.none.ensures)
      (sym c.position-here.ensures ∙ c.head-head.ensures
      ∙ ap (λ b. get_or c.args.self.now.heads b None) c.bucket_of.ensures.of_hash);
  spares = c.set_link.ensures.spares;
  nodes = c.set_link.ensures.nodes;
}

pub links-requires-in-chain : goal.links-requires-in-chain
links-requires-in-chain g c = IsHeld-towards c.chain.invariant.towards

pub overflow_add-passed : goal.overflow_add-passed
overflow_add-passed g c = omega (arith, passed-below c.chain.invariant.towards, c.requires.small)

pub chain-smaller : goal.chain-smaller
chain-smaller g c = omega (arith, passed-below c.chain.invariant.towards)

pub chain-preserved : goal.chain-preserved
chain-preserved g c = record {
  towards = IsTowards-next c.chain.invariant.towards (target c.links-in-chain.result.now.link) (pointer_of c.in-Some.next)
      c.links-in-chain.ensures.link (sym c.get.ensures ∙ ap pointer_of_some c.in-Some.is);
  spares = c.chain.invariant.spares;
  nodes = c.chain.invariant.nodes;
}

pub set_link-requires-2 : goal.set_link-requires-2
set_link-requires-2 g c = IsHeld-towards_cut c.chain.invariant.towards

pub returns-clause-on_chain : goal.returns-clause-on_chain
returns-clause-on_chain g c =
    IsOnChain-towards c.chain.invariant.towards (target c.links-in-chain.result.now.link) c.links-in-chain.ensures.link
    (sym c.get.ensures ∙ ap pointer_of_some c.in_default.is)

pub returns-clause-ring : goal.returns-clause-ring
returns-clause-ring g c = λ i. record {
  held = nodes-mended c.chain.invariant.towards c.set_link-2.new.self.held c.set_link-2.ensures.held i;
  spares = (c.set_link-2.ensures.spares ∙ c.chain.invariant.spares) i;
  nodes = (c.set_link-2.ensures.nodes ∙ c.chain.invariant.nodes) i;
}
