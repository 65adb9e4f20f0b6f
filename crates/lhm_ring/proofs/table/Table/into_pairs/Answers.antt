use Rattle.lhm_ring.proofs.{Names.◌∙◌, tables.Tables.triples-table}
use Rattle.lhm_ring.proofs.table.Table.into_pairs.Goals as goal

pub returns : goal.returns
returns g c = c.into_pairs.ensures ∙ triples-table c.self.invariant c.self.view_is
