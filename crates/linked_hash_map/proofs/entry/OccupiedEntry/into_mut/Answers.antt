use Rattle.linked_hash_map.proofs.Names.{ap, drop, refl, sym, take, occupied_key, nowhere, without_entry}
use Rattle.linked_hash_map.proofs.{Callers.Keys.keys_of-set_value, pairs.EntryMaps.IsValid-current, pairs.Indexes.set_value-index}
use Rattle.linked_hash_map.proofs.pairs.OccupiedEntries.{IsIndex-occupied, occupied_value-is}
use Rattle.linked_hash_map.proofs.entry.OccupiedEntry.into_mut.Goals as goal

pub returns : goal.returns
returns g c =
    let o = c.args.self in let m = o.map.now in
    let lent = c.leave_current.ensures in (
      (
        refl,
        λ v. ap (λ pairs. record m { pairs = pairs; cursor = without_entry m.cursor })
            (sym (set_value-index g.met.K.Eq.laws lent.valid.distinct (IsIndex-occupied o g.met.K.Eq.laws)
            v)),
      ),
      record {
        writes_back = tt;
        value = occupied_value-is o c.leave_current.result.now lent.value;
        valid = IsValid-current nowhere lent.valid;
        to_visit = λ v. ap (λ keys. take m.cursor.unvisited (drop m.cursor.bookmark keys))
            (keys_of-set_value g.K.PartialEq.eq m.pairs (occupied_key o) v);
      },
    )
