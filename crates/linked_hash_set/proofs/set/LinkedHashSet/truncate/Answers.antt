use Rattle.std.{proofs.Common.ap, proofs.Common.◌∙◌, specs.Map.keys_of}
use Rattle.linked_hash_map.proofs.Callers.Ends.{keys_of-take}
use Rattle.linked_hash_set.proofs.set.LinkedHashSet.truncate.Goals as goal

pub returns-clause-items : goal.returns-clause-items
returns-clause-items g c =
    rw (← c.self.view_is) (ap keys_of c.truncate.ensures.pairs ∙ keys_of-take c.args.len c.self.inside.map.pairs)
