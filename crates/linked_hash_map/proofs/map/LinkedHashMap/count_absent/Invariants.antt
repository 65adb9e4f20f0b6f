use Rattle.linked_hash_map.proofs.Names.{count_by, is_some, map, not, ◌≡◌, find, deref}
use Rattle.linked_hash_map.proofs.map.LinkedHashMap.count_absent.Given as goal

abbrev pub invariant-loop-key : goal.invariant-loop-key
invariant-loop-key g l =
    l.absent ≡ count_by (λ key. not (is_some (find g.K.PartialEq.eq l.fn.self.pairs key))) (map deref l.yielded)
