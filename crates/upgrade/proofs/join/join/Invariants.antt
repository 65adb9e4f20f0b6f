use Rattle.std.proofs.Common.{◌≡◌, ◌++◌, option_map}
use Rattle.std.specs.List.{filter_map}
use Rattle.linked_hash_map.specs.Pairs.{value_at}
use Rattle.upgrade.proofs.join.join.Given as goal

abbrev pub invariant-loop-key : goal.invariant-loop-key
invariant-loop-key g l = l.rows.items ++ filter_map (λ pair. option_map (λ other. (pair.0, pair.1, other))
    (value_at g.K.PartialEq.eq l.second.pairs pair.0)) l.key-iterator
    ≡ filter_map (λ pair. option_map (λ other. (pair.0, pair.1, other))
    (value_at g.K.PartialEq.eq l.second.pairs pair.0)) l.fn.first.pairs
