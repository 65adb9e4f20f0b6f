use Rattle.lhm_ring.proofs.tables.Tables.{AtHeld-table_previous, IsApart-table, IsHeld-table}
use Rattle.lhm_ring.proofs.table.Table.previous.Goals as goal

pub previous-requires : goal.previous-requires
previous-requires g c = IsHeld-table c.self.invariant c.self.view_is c.requires

pub returns-clause-previous : goal.returns-clause-previous
returns-clause-previous g c = AtHeld-table_previous c.self.invariant c.self.view_is c.previous.ensures.previous

pub returns-clause-apart : goal.returns-clause-apart
returns-clause-apart g c = IsApart-table c.self.invariant c.self.view_is c.previous.ensures.apart
