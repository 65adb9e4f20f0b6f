use Rattle.linked_hash_map.proofs.{Names.subst, Names.sym, pairs.ExtendSteps.CollectsInto-ExtendsWith}
use Rattle.linked_hash_map.proofs.collect.traits.LinkedHashMapFromIteratorTuple2.from_iter.Goals as goal

pub returns : goal.returns
returns g c =
    let all = c.in_ok-extend.ensures.ran in let empty = c.with_hasher-map.ensures in
    record {
      ran = (
        all.0,
        all.1,
        all.2,
        (all.4.1.0, all.4.1.1, λ _. (all.4.0, all.4.1.2)),
        CollectsInto-ExtendsWith g.met.K.Eq.laws
            (record {
              is_new = record {
                pairs = empty.pairs;
                capacity = empty.capacity;
                mode = empty.mode;
                rechained = empty.rechained;
                valid = empty.valid;
              };
              hasher = subst g.S.Default.is_default (sym empty.hasher) c.default.ensures;
            })
            all.3,
      );
    }
