use Rattle.lhm_ring.proofs.{Names.◌≡◌, tables.Tables.AtHeld-table, tables.Tables.IsHeld-table}
use Rattle.lhm_ring.proofs.table.Table.key.Goals as goal

pub key-requires : goal.key-requires
key-requires g c = IsHeld-table c.self.invariant c.self.view_is c.requires

pub returns : goal.returns
returns g c = AtHeld-table c.self.invariant c.self.view_is (λ xs t ys. c.key.result.now ≡ t.pair.0) c.key.ensures
