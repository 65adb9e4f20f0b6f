use Rattle.lhm_ring.proofs.{Names.◌≡◌, tables.Tables.AtHeld-table, tables.Tables.IsHeld-table}
use Rattle.lhm_ring.proofs.table.Table.value.Goals as goal

pub value-requires : goal.value-requires
value-requires g c = IsHeld-table c.self.invariant c.self.view_is c.requires

pub returns : goal.returns
returns g c = AtHeld-table c.self.invariant c.self.view_is (λ xs t ys. c.value.result.now ≡ t.pair.1) c.value.ensures
