use Rattle.linked_hash_map.proofs.Names.{Some, ap, First, First-first_at, first_held, pointer_of, pointer_of_some}
use Rattle.linked_hash_map.proofs.nodes.Current.{IsKept-visited}
use Rattle.linked_hash_map.proofs.nodes.FirstAndLast.{index_of-bare_within, index_of-first, index_of-pairs_within, pairs_of-none_first}
use Rattle.linked_hash_map.proofs.map.LinkedHashMap.seek_front.Goals as goal

-- its node is the first
is_first : (g : _) (c : goal.After-self-1 g) → First c.self.inside.table.held (pointer_of c.in-Some.front)
is_first g c = First-first_at c.self.inside.table.held c.first.ensures (ap pointer_of_some c.in-Some.is)

pub invariant_of-self : goal.invariant_of-self
invariant_of-self g c =
    let at = c.at-self-inside.ensures in
    rw (at.bookmark, at.unvisited, at.current) (IsKept-visited c.self.invariant
    (Some (pointer_of c.in-Some.front)) (index_of-bare_within (first_held (is_first g c))))

pub returns-clause-front : goal.returns-clause-front
returns-clause-front g c _ = rw (c.at-self-inside.ensures.current) (index_of-first (is_first g c))

pub returns-clause-within : goal.returns-clause-within
returns-clause-within g c _ = rw (c.at-self-inside.ensures.current) (index_of-pairs_within (first_held (is_first g c)))

pub returns-in_default-clause-none : goal.returns-in_default-clause-none
returns-in_default-clause-none g c _ =
    rw (← c.self.view_is) (pairs_of-none_first c.self.inside.table.held (ap pointer_of_some c.in_default.is) c.first.ensures)
