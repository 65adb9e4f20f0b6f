use Rattle.linked_hash_map.proofs.Names.{Some, ap, Last, Last-last_at, last_held, pointer_of, pointer_of_some}
use Rattle.linked_hash_map.proofs.nodes.Current.{IsKept-visited}
use Rattle.linked_hash_map.proofs.nodes.FirstAndLast.{index_of-bare_within, index_of-last, index_of-pairs_within, pairs_of-none_last}
use Rattle.linked_hash_map.proofs.map.LinkedHashMap.seek_back.Goals as goal

-- its node is the last
is_last : (g : _) (c : goal.After-self-1 g) → Last c.self.inside.table.held (pointer_of c.in-Some.back)
is_last g c = Last-last_at c.self.inside.table.held c.last.ensures.last (ap pointer_of_some c.in-Some.is)

pub invariant_of-self : goal.invariant_of-self
invariant_of-self g c =
    let at = c.at-self-inside.ensures in
    rw (at.bookmark, at.unvisited, at.current) (IsKept-visited c.self.invariant
    (Some (pointer_of c.in-Some.back)) (index_of-bare_within (last_held (is_last g c))))

pub returns-clause-back : goal.returns-clause-back
returns-clause-back g c _ = rw (← c.self.view_is, c.at-self-inside.ensures.current) (index_of-last c.last.ensures.apart (is_last g c))

pub returns-clause-within : goal.returns-clause-within
returns-clause-within g c _ = rw (c.at-self-inside.ensures.current) (index_of-pairs_within (last_held (is_last g c)))

pub returns-in_default-clause-none : goal.returns-in_default-clause-none
returns-in_default-clause-none g c _ =
    rw (← c.self.view_is) (pairs_of-none_last c.self.inside.table.held (ap pointer_of_some c.in_default.is) c.last.ensures.last)
