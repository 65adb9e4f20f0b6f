use Rattle.linked_hash_map.proofs.Names.{length, sym, ◌∙◌, rechained_raised}
use Rattle.linked_hash_map.proofs.{lists.Results.of-OnOk, nodes.HeldPairs.length-pairs_of, pairs.RehashCounts.rechained_raised-table}
use Rattle.linked_hash_map.proofs.map.LinkedHashMap.make_room.Goals as goal

pub returns-clause-rechained : goal.returns-clause-rechained
returns-clause-rechained g c = λ given.
    let t = c.self.inside.table in
    let ok = rw c.is_ok.ensures.value at given in
    rw (← c.self.view_is) (of-OnOk c.raise.result c.raise.ensures.rechained ok
    ∙ rechained_raised-table t.rechained (length t.held) t.capacity _
    ∙ (λ i. rechained_raised t.rechained (sym (length-pairs_of t.held) i) t.capacity
    (sym (of-OnOk c.raise.result c.raise.ensures.capacity ok) i)))
