use Rattle.linked_hash_map.proofs.Names.{ap, length, rules, sym, ◌+◌, ◌∙◌, occupied_key, occupied_map, nowhere}
use Rattle.linked_hash_map.proofs.Callers.{Keys.length-without_present, Updates.Updates-without}
use Rattle.linked_hash_map.proofs.pairs.{EntryMaps.IsValid-current, Indexes.without-index}
use Rattle.linked_hash_map.proofs.pairs.OccupiedEntries.{IsIndex-occupied, is_some-occupied, occupied_pair-is}
use Rattle.linked_hash_map.proofs.entry.OccupiedEntry.remove_entry.Goals as goal

pub returns : goal.returns
returns g c =
    let o = c.args.self in let laws = g.met.K.Eq.laws in let taken = c.remove_current.ensures in
    let is = occupied_pair-is o c.remove_current.result taken.pair in
    let pairs = taken.pairs ∙ sym (without-index laws taken.valid.distinct (IsIndex-occupied o laws)) in
    record {
      key = ap (λ pair. pair.0) is;
      value = ap (λ pair. pair.1) is;
      pairs = pairs;
      keeps = search rules;
      to_visit = search rules;
      valid = IsValid-current nowhere taken.valid;
      stays_valid = taken.stays_valid;
      updates = Updates-without laws (occupied_map o).pairs c.remove_current.new.self.pairs (occupied_key o) pairs;
      fewer = ap (λ ps. length ps + 1) pairs
          ∙ length-without_present laws (occupied_map o).pairs (occupied_key o) taken.valid.distinct (is_some-occupied o laws);
    }
