use Rattle.linked_hash_map.proofs.Names.{ap, inr, to_visit}
use Rattle.linked_hash_map.proofs.{pairs.RehashCounts.rechained_each-same, runs.Effects.Defines-set_mode}
use Rattle.linked_hash_map.proofs.replay.set_mode.Goals as goal

pub returns : goal.returns
returns g c =
    let set = c.set_mode.ensures.sets in
    record {
      answers = λ start log defines. tt;
      defines = λ start log defines. Defines-set_mode g.met.K.Eq.laws defines c.args.mode
          (ap (λ m. m.pairs) set) (ap (λ m. m.capacity) set) (ap (λ m. m.mode) set);
      hasher = ap (λ m. m.hasher) set;
      rechained = rechained_each-same _ (ap (λ m. m.capacity) set) (ap (λ m. m.rechained) set);
      visit = inr (ap to_visit set);
    }
