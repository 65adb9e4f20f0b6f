use Rattle.linked_hash_map.proofs.Callers.Prelude.{◌/◌, rules, map-filter_from_retain_pairs}
use Rattle.uses.proofs.retains.age.Goals as goal

pub returns-clause-pairs : goal.returns-clause-pairs
returns-clause-pairs g c = map-filter_from_retain_pairs _ _ (λ pair. pair.1 / 2) _ _ _
    (λ k v b w f call. search rules) c.retain.ensures.pairs
