use Rattle.linked_hash_map.proofs.Names.{ap, refl, slice_get, sym, ◌∙◌}
use Rattle.linked_hash_map.proofs.{Callers.Updates.Updates-without, pairs.EntryMaps.Keeps-same}
use Rattle.linked_hash_map.proofs.pairs.OccupiedEntries.{Updates-occupied, slice_get-occupied}
use Rattle.linked_hash_map.proofs.map.LinkedHashMap.front_entry.Goals as goal

pub returns-then-seek_front : goal.returns-then-seek_front
returns-then-seek_front g c =
    let seek = c.if-seek_front.ensures in let same = seek.ends_visit refl in let pairs = ap (λ m. m.pairs) same in (
      refl,
      record {
        lends = tt;
        same_map = refl;
        pair = sym (slice_get-occupied _) ∙ (λ i. slice_get (pairs i) (seek.front refl i));
        pairs = pairs;
        keeps = Keeps-same same;
        ends_visit = same;
        valid = seek.valid;
        updates = Updates-occupied _ g.met.K.Eq.laws pairs;
        removes = Updates-without g.met.K.Eq.laws c.args.self.now.pairs _ _ refl;
      },
    )
