use Rattle.std.{proofs.Common.ap, proofs.Common.◌∙◌, specs.Map.keys_of}
use Rattle.linked_hash_map.proofs.Callers.Permuted.{keys_of-reverse}
use Rattle.linked_hash_set.proofs.set.LinkedHashSet.reverse.Goals as goal

pub returns-clause-items : goal.returns-clause-items
returns-clause-items g c =
    rw (← c.self.view_is) (ap keys_of c.reverse.ensures.pairs ∙ keys_of-reverse c.self.inside.map.pairs)
