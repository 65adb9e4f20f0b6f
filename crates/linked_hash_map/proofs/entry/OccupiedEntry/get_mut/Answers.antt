use Rattle.linked_hash_map.proofs.Names.{ap, drop, refl, sym, take, within-set_value_at, nowhere, without_entry}
use Rattle.linked_hash_map.proofs.pairs.{EntryMaps.IsValid-current, Indexes.keys_of-set_value_at, Indexes.set_value-index}
use Rattle.linked_hash_map.proofs.pairs.OccupiedEntries.{IsIndex-occupied, occupied_pair-written, occupied_value-is, with_occupied_value-is}
use Rattle.linked_hash_map.proofs.entry.OccupiedEntry.get_mut.Goals as goal

pub invariant_of-self-lent : goal.invariant_of-self-lent
invariant_of-self-lent g c w =
    let o = c.args.self.now in
    (within-set_value_at o.map.now.pairs o.map.now.cursor.current w o.within, (o.outside, tt))

pub returns : goal.returns
returns g c =
    let o = c.args.self.now in let m = o.map.now in
    let lent = c.current_value_mut.ensures in (
      (refl, λ w. with_occupied_value-is o w _ _),
      record {
        writes_back = tt;
        valid = IsValid-current nowhere lent.valid;
        value = occupied_value-is o c.current_value_mut.result.now lent.value;
        key = λ v. ap (λ pair. pair.0) (occupied_pair-written o v);
        written = λ v. ap (λ pair. pair.1) (occupied_pair-written o v);
        map = λ v. ap (λ pairs. record m { pairs = pairs; cursor = without_entry m.cursor })
            (sym (set_value-index g.met.K.Eq.laws lent.valid.distinct
            (IsIndex-occupied o g.met.K.Eq.laws) v));
        to_visit = λ v. ap (λ keys. take m.cursor.unvisited (drop m.cursor.bookmark keys))
            (keys_of-set_value_at m.pairs m.cursor.current v);
      },
    )
