use Rattle.linked_hash_map.proofs.Names.{ap, refl, slice_get, sym, ◌∙◌, keys_of}
use Rattle.linked_hash_map.proofs.pairs.OccupiedEntries.{slice_get-occupied_key, value_at-occupied}
use Rattle.linked_hash_map.proofs.map.LinkedHashMap.next_entry.Goals as goal

pub returns-then-visit_next : goal.returns-then-visit_next
returns-then-visit_next g c = (
  refl,
  record {
    lends = tt;
    same_map = refl;
    visits = c.if-visit_next.ensures.key refl _
        (ap (λ ps. slice_get (keys_of ps) c.visit_next.new.self.cursor.current)
        (sym c.if-visit_next.ensures.pairs) ∙ slice_get-occupied_key _);
    value = value_at-occupied _ g.met.K.Eq.laws c.if-visit_next.ensures.valid.distinct c.if-visit_next.ensures.pairs;
    pairs = c.if-visit_next.ensures.pairs;
    keeps =
        record {
          capacity = c.if-visit_next.ensures.keeps.capacity;
          rechained = c.if-visit_next.ensures.keeps.rechained;
          hasher = c.if-visit_next.ensures.keeps.hasher;
          mode = c.if-visit_next.ensures.keeps.mode;
        };
    valid = c.if-visit_next.ensures.valid;
    none = tt;
  },
)
