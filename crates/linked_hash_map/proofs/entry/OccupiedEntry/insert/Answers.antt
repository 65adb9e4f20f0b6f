use Rattle.linked_hash_map.proofs.Names.{occupied_key, occupied_map}
use Rattle.linked_hash_map.proofs.{Callers.Updates.Updates-put, pairs.OccupiedEntries.IsIndex-occupied}
use Rattle.linked_hash_map.proofs.entry.OccupiedEntry.insert.Goals as goal

pub returns-clause-updates : goal.returns-clause-updates
returns-clause-updates g c =
    let o = c.args.self.now in let laws = g.met.K.Eq.laws in
    Updates-put laws (occupied_map o).mode (occupied_map o).pairs c.insert_current.new.self.pairs (occupied_key o) c.args.value
    (c.insert_current.ensures.pairs (occupied_key o) (IsIndex-occupied o laws))
