use Rattle.linked_hash_map.proofs.{Names.ap, Names.refl, Names.bare, nodes.EmptyMap.IsKept-none, nodes.Kept.IsValid-kept}
use Rattle.linked_hash_map.proofs.map.LinkedHashMap.of_empty.Goals as goal

pub invariant_of-result : goal.invariant_of-result
invariant_of-result g c =
    let e = c.new.ensures in
    rw (e.bookmark, e.unvisited, e.current) (IsKept-none (ap bare c.requires.empty) c.requires.limit)

pub returns-clause-valid : goal.returns-clause-valid
returns-clause-valid g c = IsValid-kept _ (invariant_of-result g c) refl refl refl
