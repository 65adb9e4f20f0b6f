use Rattle.lhm_ring.proofs.Names.{None, Some, ap, links_at, pair, refl, rekeyed, with_body, ◌∙◌, ◌≡◌}
use Rattle.lhm_ring.proofs.rings.Insides.{ChangesOnly-held, Holds-inside, IsAt-inside, IsOwned-written, contents-set, pair-inside}
use Rattle.lhm_ring.proofs.{memory.Places.IsLaid-same, rings.Rebodied.links_at-with_body, rings.Writes.with_body-twice}
use Rattle.lhm_ring.proofs.ring.Ring.replace_key.Goals as goal

pub take-old-requires : goal.take-old-requires
take-old-requires g c = Holds-inside c.self.inside c.self.invariant c.self.view_is c.requires

pub fill-requires : goal.fill-requires
fill-requires g c =
    let p = c.args.at.pointer.ptr in let l = IsAt-inside c.self.inside c.self.invariant c.self.view_is c.requires in
    (l.0, ap (λ ds. links_at ds p) c.take-old.ensures.cells ∙ links_at-with_body p None c.self.inside.nodes.cells p ∙ l.1)

-- the nodes hold the key with the old value
written : (g : _) (c : goal.After-fill g) → c.fill.new.self.cells
    ≡ with_body c.args.at.pointer.ptr (Some (pair c.args.key c.take-old.result.1)) c.self.inside.nodes.cells
written g c =
    let p = c.args.at.pointer.ptr in let x = pair c.args.key c.take-old.result.1 in
    c.fill.ensures.cells ∙ ap (with_body p (Some x)) c.take-old.ensures.cells ∙ with_body-twice p x c.self.inside.nodes.cells

pub invariant_of-self : goal.invariant_of-self
invariant_of-self g c = record {
  ring = IsOwned-written c.self.inside c.self.invariant c.self.view_is c.requires
      c.take-old.ensures.body _ (rekeyed c.args.key) (λ _ _ _. refl) (written g c);
  laid = IsLaid-same c.self.invariant.laid (c.fill.ensures.land.0 ∙ c.take-old.ensures.land.0)
      (c.fill.ensures.land.1 ∙ c.take-old.ensures.land.1);
}

pub returns-clause-held : goal.returns-clause-held
returns-clause-held g c = λ xs t ys e at.
    contents-set c.self.inside c.self.invariant c.self.view_is c.requires
    c.take-old.ensures.body _ (rekeyed c.args.key) (λ _ _ _. refl) (written g c)
    ∙ ChangesOnly-held c.self.inside c.self.invariant c.self.view_is c.args.at.pointer.ptr xs t ys e at
    (rekeyed c.args.key)

pub returns-clause-old : goal.returns-clause-old
returns-clause-old g c = λ xs t ys e at.
    let is = pair-inside c.self.inside c.self.invariant c.self.view_is c.args.at.pointer.ptr
    c.take-old.ensures.body in ap (λ z. z.0) (is xs t ys e at)
