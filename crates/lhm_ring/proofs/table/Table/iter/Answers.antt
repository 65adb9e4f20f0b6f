use Rattle.lhm_ring.proofs.Names.{TableState, ap, entries, ◌∙◌}
use Rattle.lhm_ring.proofs.table.Table.iter.Goals as goal

pub returns : goal.returns
returns g c = ap entries c.iter.ensures ∙ ap (λ (z : TableState (g.row.K.Denot × g.row.V.Denot)). z.held) c.self.view_is
