use Rattle.linked_hash_map.proofs.Names.{ap, arith, length, pointer_of_some, pairs_back_from}
use Rattle.linked_hash_map.proofs.nodes.NodesFrom.{IsAt-some, length-pairs_back_from, some-pairs_back_from}
use Rattle.linked_hash_map.proofs.iter.iter_from.IterBackFromIterator.size_hint.Goals as goal

pub returns-in-Some-clause-lower : goal.returns-in-Some-clause-lower
returns-in-Some-clause-lower g c _ =
    let hs = c.self.inside.table.now.held in
    let some = some-pairs_back_from hs (IsAt-some hs c.in-Some.is c.self.invariant) in
    let there = ap (λ o. length (pairs_back_from (pointer_of_some o) hs)) c.in-Some.is in
    let same = ap length c.self.view_is in
    omega (arith, some, there, same)

pub returns-in-Some-clause-upper : goal.returns-in-Some-clause-upper
returns-in-Some-clause-upper g c =
    let few = length-pairs_back_from (pointer_of_some c.self.inside.next) c.self.inside.table.now.held in
    let same = ap length c.self.view_is in
    (tt, omega (arith, few, same, c.len.ensures.value))
