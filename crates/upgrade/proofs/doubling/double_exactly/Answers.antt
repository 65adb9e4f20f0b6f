use Rattle.std.proofs.Common.{rules, ◌*◌, ◌-◌, ◌^◌, min}
use Rattle.linked_hash_map.proofs.Callers.Retained.{map_from_retain_pairs}
use Rattle.upgrade.proofs.doubling.double_exactly.Goals as goal

pub returns-clause-pairs : goal.returns-clause-pairs
returns-clause-pairs g c = map_from_retain_pairs _ (λ pair. min (pair.1 * 2) (2 ^ 64 - 1)) _ _ _
    (λ k v b w f call. search rules) c.retain.ensures.pairs
