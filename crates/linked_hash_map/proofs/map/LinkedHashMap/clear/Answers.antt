use Rattle.linked_hash_map.proofs.{Names.[], Names.refl, nodes.EmptyMap.IsKept-none, nodes.Kept.IsValid-kept}
use Rattle.linked_hash_map.proofs.map.LinkedHashMap.clear.Goals as goal

pub invariant_of-self : goal.invariant_of-self
invariant_of-self g c = IsKept-none refl c.self.invariant.limit

pub returns-clause-stays_valid : goal.returns-clause-stays_valid
returns-clause-stays_valid g c = IsValid-kept [] (invariant_of-self g c) refl refl refl
