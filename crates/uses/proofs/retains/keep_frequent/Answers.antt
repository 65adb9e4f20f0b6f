use Rattle.linked_hash_map.proofs.Callers.Prelude.{rules, filter_same_pairs}
use Rattle.uses.proofs.retains.keep_frequent.Goals as goal

pub returns-clause-pairs : goal.returns-clause-pairs
returns-clause-pairs g c =
    filter_same_pairs _ _ _ _ _ (λ k v b w f call. search rules) c.retain.ensures.pairs
