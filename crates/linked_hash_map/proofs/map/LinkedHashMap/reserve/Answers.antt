use Rattle.linked_hash_map.proofs.Names.{length, sym, ◌∙◌, rechained_raised}
use Rattle.linked_hash_map.proofs.map.LinkedHashMap.reserve.Goals.{in-Err, in-Ok}
use Rattle.linked_hash_map.proofs.{nodes.HeldPairs.length-pairs_of, pairs.RehashCounts.rechained_raised-table}
use Rattle.linked_hash_map.proofs.map.LinkedHashMap.reserve.Goals as goal

pub returns-clause-rechained : goal.returns-clause-rechained
returns-clause-rechained g c =
    let t = c.self.inside.table in
    elim c.match-raise.branch [
      | in-Ok w ↦ rw (w.result-is, ← c.self.view_is) (w.in-Ok.ensures.rechained
          ∙ rechained_raised-table t.rechained (length t.held) t.capacity _
          ∙ (λ i. rechained_raised t.rechained (sym (length-pairs_of t.held) i) t.capacity (sym w.in-Ok.ensures.capacity i)))
      | in-Err w ↦ rw w.result-is tt
    ]
