use Rattle.lhm_ring.proofs.Names.{TableState, ap, last_at, sym, ◌∙◌}
use Rattle.lhm_ring.proofs.{indexes.Entries.last_at-entries, tables.Tables.IsApart-table}
use Rattle.lhm_ring.proofs.table.Table.last.Goals as goal

pub returns-clause-last : goal.returns-clause-last
returns-clause-last g c = c.last.ensures.last ∙ sym (last_at-entries c.self.inside.ring.held)
    ∙ ap (λ (z : TableState (g.row.K.Denot × g.row.V.Denot)). last_at z.held) c.self.view_is

pub returns-clause-apart : goal.returns-clause-apart
returns-clause-apart g c = IsApart-table c.self.invariant c.self.view_is c.last.ensures.apart
