use Rattle.std.proofs.lemmas.List.Sorted.{IsPermutation-map}
use Rattle.linked_hash_set.proofs.set.LinkedHashSet.sort.Goals as goal

pub returns-clause-permutation : goal.returns-clause-permutation
returns-clause-permutation g c = rw (← c.self.view_is)
    (IsPermutation-map (λ pair. pair.0) c.self.inside.map.pairs c.sort_keys.new.self.pairs c.sort_keys.ensures.permutation)
