use Rattle.linked_hash_map.proofs.Names.{Some, pointer_of, HasKey}
use Rattle.linked_hash_map.proofs.lists.Options.{of-None, of-Some}
use Rattle.linked_hash_map.proofs.nodes.{Current.IsKept-visited, FoundKeys.IsIndex-index_of_bare, FoundKeys.index_of-HasKey_bare}
use Rattle.linked_hash_map.proofs.map.LinkedHashMap.seek.Goals as goal

-- a position that is found is that of the key
has : (g : _) (c : goal.After-self-1 g)
    → HasKey (g.K.PartialEq.eq c.args.key.now) c.locate-hash.result.0 c.self.inside.table.held
    (pointer_of c.in-Some.at)
has g c = (of-Some _ c.in-Some.is c.locate-hash.ensures.found).has

pub invariant_of-self : goal.invariant_of-self
invariant_of-self g c =
    let at = c.at-self-inside.ensures in
    rw (at.bookmark, at.unvisited, at.current) (IsKept-visited c.self.invariant
    (Some (pointer_of c.in-Some.at)) (index_of-HasKey_bare (has g c)))

pub returns-clause-found : goal.returns-clause-found
returns-clause-found g c found = rw (← c.self.view_is, c.at-self-inside.ensures.current) (IsIndex-index_of_bare (has g c))

pub returns-in_default-clause-absent : goal.returns-in_default-clause-absent
returns-in_default-clause-absent g c none = rw (← c.self.view_is) (of-None c.in_default.is c.locate-hash.ensures.absent)
