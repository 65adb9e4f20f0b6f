use Rattle.lhm_ring.proofs.rings.Insides.{IsAt-inside, hash-inside}
use Rattle.lhm_ring.proofs.rings.Unlink.{Holds-unlinked, IsAt-taken, IsOwned-unlinked, contents-unlinked, count-held, pair-unlinked}
use Rattle.lhm_ring.proofs.{Names.IsHeld, Names.ap, Names.◌+◌, Names.◌∙◌, memory.Places.IsLaid-same, rings.Moves.is_there-neighbours}
use Rattle.lhm_ring.proofs.ring.Ring.unlink.Goals as goal

pub links-old-requires : goal.links-old-requires
links-old-requires g c = IsAt-inside c.self.inside c.self.invariant c.self.view_is c.requires

pub join-requires : goal.join-requires
join-requires g c =
    is_there-neighbours c.self.inside c.self.invariant c.self.view_is c.args.at.block c.requires c.links-old.ensures

pub take-key-requires : goal.take-key-requires
take-key-requires g c =
    Holds-unlinked c.self.inside c.self.invariant c.self.view_is c.args.at.block c.requires c.links-old.ensures c.join.new.nodes
    c.join.ensures.joined

pub set_chain-requires : goal.set_chain-requires
set_chain-requires g c =
    IsAt-taken c.self.inside c.self.invariant c.self.view_is c.args.at.block c.requires c.links-old.ensures c.join.new.nodes
    c.join.ensures.joined c.take-key.ensures.cells

pub overflow_sub-self : goal.overflow_sub-self
overflow_sub-self g c = count-held c.self.inside c.self.invariant c.self.view_is c.args.at.block c.requires

pub invariant_of-self : goal.invariant_of-self
invariant_of-self g c =
    let i = c.self.inside in let ok = c.self.invariant in let w = c.self.view_is in let b = c.args.at.block in
    record {
      ring = IsOwned-unlinked i ok w b c.requires c.links-old.ensures c.join.new.nodes c.join.ensures.joined c.take-key.ensures.cells
          c.set_chain.ensures.written c.to-self-inside.ensures;
      laid = IsLaid-same c.self.invariant.laid (c.set_chain.ensures.land.0 ∙ c.take-key.ensures.land.0 ∙ c.join.ensures.land.0)
          (c.set_chain.ensures.land.1 ∙ c.take-key.ensures.land.1 ∙ c.join.ensures.land.1);
    }

pub returns : goal.returns
returns g c =
    let i = c.self.inside in let ok = c.self.invariant in let w = c.self.view_is in let b = c.args.at.block in
    let p = c.args.at.pointer.ptr in let e = c.links-old.ensures in
    record {
      others = λ xs t ys is at.
          let h : IsHeld c.args.self.now.held p = record { before = xs; node = t; after = ys; is = is; at_is = at } in
          contents-unlinked i ok w b h e c.join.new.nodes c.join.ensures.joined c.take-key.ensures.cells c.set_chain.ensures.written;
      triple = λ xs t ys is at.
          let h : IsHeld c.args.self.now.held p = record { before = xs; node = t; after = ys; is = is; at_is = at } in
          let pair = pair-unlinked i ok w b h e c.join.new.nodes c.join.ensures.joined c.take-key.ensures.body in
          let hash = hash-inside i ok w p e xs t ys is at in
          λ z. (hash z, (pair z).0, (pair z).1);
      spares = ap (λ z. z.spares + 1) c.self.view_is;
      nodes = ap (λ z. z.nodes) c.self.view_is;
    }

pub to-self-inside-requires : goal.to-self-inside-requires
to-self-inside-requires g c = c.args.at.block
