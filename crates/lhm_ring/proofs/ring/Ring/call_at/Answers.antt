use Rattle.lhm_ring.proofs.Names.{CalledAtPair, None, Some, ap, links_at, pair, refl, revalued, state, subst, with_body, ◌∙◌}
use Rattle.lhm_ring.proofs.rings.Insides.{ChangesOnly-held, Holds-inside, IsAt-inside, IsOwned-written, contents-set, pair-inside}
use Rattle.lhm_ring.proofs.{memory.Places.IsLaid-same, rings.Rebodied.links_at-with_body, rings.Writes.with_body-twice}
use Rattle.lhm_ring.proofs.ring.Ring.call_at.Goals as goal

pub take-key-requires : goal.take-key-requires
take-key-requires g c = Holds-inside c.self.inside c.self.invariant c.self.view_is c.requires.held

pub call-kept-requires : goal.call-kept-requires
call-kept-requires g c =
    let h = c.requires.held in
    let own = pair-inside c.self.inside c.self.invariant c.self.view_is _ c.take-key.ensures.body in
    let is = own h.before h.node h.after h.is h.at_is in
    λ p q key value. c.requires.takes p q (key ∙ ap (λ z. z.0) is) (value ∙ ap (λ z. z.1) is)

pub fill-requires : goal.fill-requires
fill-requires g c =
    let p = c.args.at.pointer.ptr in let l = IsAt-inside c.self.inside c.self.invariant c.self.view_is c.requires.held in
    (l.0, ap (λ ds. links_at ds p) c.take-key.ensures.cells ∙ links_at-with_body p None c.self.inside.nodes.cells p ∙ l.1)

pub invariant_of-self : goal.invariant_of-self
invariant_of-self g c =
    let p = c.args.at.pointer.ptr in let new = c.call-kept.new.value in let x = pair c.take-key.result.0 new in
    let z = c.fill.ensures.cells ∙ ap (with_body p (Some x)) c.take-key.ensures.cells ∙ with_body-twice p x c.self.inside.nodes.cells in
    record {
      ring = IsOwned-written c.self.inside c.self.invariant c.self.view_is c.requires.held c.take-key.ensures.body x
          (revalued new) (λ _ _ _. refl) z;
      laid = IsLaid-same c.self.invariant.laid (c.fill.ensures.land.0 ∙ c.take-key.ensures.land.0)
          (c.fill.ensures.land.1 ∙ c.take-key.ensures.land.1);
    }

pub returns-clause-called : goal.returns-clause-called
returns-clause-called g c =
    let p = c.args.at.pointer.ptr in let new = c.call-kept.new.value in let x = pair c.take-key.result.0 new in let v = c.self.view_is in
    let z = c.fill.ensures.cells ∙ ap (with_body p (Some x)) c.take-key.ensures.cells ∙ with_body-twice p x c.self.inside.nodes.cells in
    let list = contents-set c.self.inside c.self.invariant c.self.view_is
    c.requires.held c.take-key.ensures.body x (revalued new) (λ _ _ _. refl) z in
    let own = pair-inside c.self.inside c.self.invariant v p c.take-key.ensures.body in
    record {
      value = new;
      at_pair = λ xs t ys h at. subst (λ (z : g.row.K.Denot × g.row.V.Denot). CalledAtPair g.F.FnMut
          c.args.keep.now z.0 z.1 c.call-kept.result new c.call-kept.new.keep)
          (own xs t ys h at) c.call-kept.ensures;
      new_is = λ y. state (list y) (v y).spares (v y).nodes;
    }

pub returns-clause-alone : goal.returns-clause-alone
returns-clause-alone g c = ChangesOnly-held c.self.inside c.self.invariant c.self.view_is c.args.at.pointer.ptr
