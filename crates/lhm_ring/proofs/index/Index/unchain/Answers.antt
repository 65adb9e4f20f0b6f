use Rattle.lhm_ring.proofs.Names.{ap, pointer_of, pointer_of_some, target}
use Rattle.lhm_ring.proofs.indexes.IndexTakes.{HasOtherChains-take_first, HasOtherChains-take_next, IsHeld-before, IsHeld-on_chain}
use Rattle.lhm_ring.proofs.indexes.{Entries.entries-linked_to, WholeBuckets.HoldsOthers-head, WholeBuckets.HoldsOthers-next}
use Rattle.lhm_ring.proofs.index.Index.unchain.Goals as goal

pub links-requires : goal.links-requires
links-requires g c = IsHeld-on_chain c.requires.on_chain

pub set_link-requires : goal.set_link-requires
set_link-requires g c = IsHeld-before c.requires.on_chain (ap pointer_of_some c.in-Some.is)

pub returns-in-Some-clause-links : goal.returns-in-Some-clause-links
returns-in-Some-clause-links g c = record {
  held = entries-linked_to c.args.ring.now.held c.set_link.new.self.held (pointer_of c.in-Some.before) (target c.links.result.now.link)
      (IsHeld-before c.requires.on_chain (ap pointer_of_some c.in-Some.is)) c.set_link.ensures.held;
  spares = c.set_link.ensures.spares;
  nodes = c.set_link.ensures.nodes;
}

pub returns-in-Some-clause-lacks : goal.returns-in-Some-clause-lacks
returns-in-Some-clause-lacks g c =
    HoldsOthers-next c.args.ring.now.held c.args.self.now c.requires.indexed (returns-in-Some-clause-links g c).held
    (HasOtherChains-take_next c.requires.on_chain (ap pointer_of_some c.in-Some.is)
    c.requires.indexed.chains c.links.ensures.link c.set_link.ensures.held)

pub returns-in-None-clause-lacks : goal.returns-in-None-clause-lacks
returns-in-None-clause-lacks g c =
    let new = c.set_head.ensures in
    HoldsOthers-head c.args.self.now c.set_head.new.self c.bucket_of.result (target c.links.result.now.link) c.bucket_of.ensures.within
    new.heads new.same new.cleared c.requires.indexed.count c.requires.indexed.covers (rw (new.heads, c.bucket_of.ensures.of_hash)
    (HasOtherChains-take_first c.requires.on_chain (ap pointer_of_some c.in-None.is) c.requires.indexed.chains c.links.ensures.link))
