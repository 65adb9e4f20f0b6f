use Rattle.std.{proofs.Common.ap, proofs.Common.◌∙◌, specs.Map.keys_of}
use Rattle.linked_hash_set.proofs.Kept.{keys_of-to_after}
use Rattle.linked_hash_set.proofs.set.LinkedHashSet.move_after.Goals as goal

pub returns-clause-items : goal.returns-clause-items
returns-clause-items g c =
    rw (← c.self.view_is) (λ moved. ap keys_of (c.move_after.ensures.pairs moved)
    ∙ keys_of-to_after g.Q.Equivalent.equivalent g.P.Equivalent.equivalent c.self.inside.map.pairs c.args.item c.args.other)
