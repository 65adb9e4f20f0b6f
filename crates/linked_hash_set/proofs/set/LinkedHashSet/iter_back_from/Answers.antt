use Rattle.std.{proofs.Common.ap, proofs.Common.◌∙◌, specs.Map.keys_of, specs.Map.Iter.deref}
use Rattle.linked_hash_map.proofs.Callers.Iterators.{shows_in_order}
use Rattle.linked_hash_set.proofs.Kept.{keys_of-from_reverse}
use Rattle.linked_hash_set.proofs.set.LinkedHashSet.iter_back_from.Goals as goal

pub returns-in_err-pairs-clause-runs : goal.returns-in_err-pairs-clause-runs
returns-in_err-pairs-clause-runs g c = shows_in_order deref

pub returns-clause-items : goal.returns-clause-items
returns-clause-items g c = rw (← c.self.view_is)
    (ap keys_of c.in_ok-pairs.ensures.pairs ∙ keys_of-from_reverse g.Q.Equivalent.equivalent c.self.inside.map.pairs c.args.item)

pub returns-clause-runs : goal.returns-clause-runs
returns-clause-runs g c = shows_in_order deref
