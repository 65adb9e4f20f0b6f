use Rattle.lhm_ring.proofs.Names.{ap, refl, revalued, state, value_set, with_body}
use Rattle.lhm_ring.proofs.rings.Insides.{ChangesOnly-held, Holds-inside, IsOwned-written, contents-set, pair-inside}
use Rattle.lhm_ring.proofs.ring.Ring.value_mut.Goals as goal

pub value_mut-requires : goal.value_mut-requires
value_mut-requires g c = Holds-inside c.self.inside c.self.invariant c.self.view_is c.requires

pub invariant_of-self-lent : goal.invariant_of-self-lent
invariant_of-self-lent g c w =
    let i = c.self.inside in let e = c.value_mut.ensures.value.1 in
    record {
      ring = IsOwned-written i c.self.invariant c.self.view_is c.requires e _ (revalued w) (λ _ _ _. refl)
          (ap (λ o. with_body c.args.at.pointer.ptr (value_set w o) i.nodes.cells) e);
      laid = c.self.invariant.laid;
    }

pub returns : goal.returns
returns g c =
    let i = c.self.inside in let v = c.self.view_is in let e = c.value_mut.ensures.value.1 in
    let is = pair-inside i c.self.invariant v _ e in (
      (
        refl,
        λ w.
            let list = contents-set i c.self.invariant v c.requires e _ (revalued w) (λ _ _ _. refl)
            (ap (λ o. with_body c.args.at.pointer.ptr (value_set w o) i.nodes.cells) e) in
            λ x. state (list x) (v x).spares (v x).nodes,
      ),
      record {
        writes_back = tt;
        alone = ChangesOnly-held c.self.inside c.self.invariant c.self.view_is c.args.at.pointer.ptr;
        value = λ xs t ys h at. ap (λ (z : g.row.K.Denot × g.row.V.Denot). z.1) (is xs t ys h at);
      },
    )
