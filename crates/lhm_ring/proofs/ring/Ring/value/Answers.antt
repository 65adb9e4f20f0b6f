use Rattle.lhm_ring.proofs.{Names.ap, rings.Insides.Holds-inside, rings.Insides.pair-inside}
use Rattle.lhm_ring.proofs.ring.Ring.value.Goals as goal

pub value-requires : goal.value-requires
value-requires g c = Holds-inside c.self.inside c.self.invariant c.self.view_is c.requires

pub returns : goal.returns
returns g c xs t ys h at =
    let is = pair-inside c.self.inside c.self.invariant c.self.view_is _ c.value.ensures.1 in
    ap (λ (z : g.row.K.Denot × g.row.V.Denot). z.1) (is xs t ys h at)
