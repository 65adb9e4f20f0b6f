use Rattle.linked_hash_map.proofs.Names.{ap, arith, length, refl, sym, ◌∙◌, buckets, rechained_fitted}
use Rattle.linked_hash_map.proofs.nodes.{Fitted.IsKept-fitted, Fitted.pairs_of-triples, HeldPairs.length-pairs_of, Kept.IsValid-kept}
use Rattle.linked_hash_map.proofs.pairs.RehashCounts.{buckets-table, rechained_fitted-table}
use Rattle.linked_hash_map.proofs.map.LinkedHashMap.shrink_to_fit.Goals as goal

pub invariant_of-self : goal.invariant_of-self
invariant_of-self g c = IsKept-fitted c.self.inside.table.held c.shrink_to_fit.new.self.held c.self.invariant
    c.in-Ok.ensures.triples c.in-Ok.ensures.capacity

pub returns-in-Ok-clause-pairs : goal.returns-in-Ok-clause-pairs
returns-in-Ok-clause-pairs g c = rw (← c.self.view_is) (pairs_of-triples c.self.inside.table.held
    c.shrink_to_fit.new.self.held c.in-Ok.ensures.triples)

pub returns-in-Ok-clause-stays_valid : goal.returns-in-Ok-clause-stays_valid
returns-in-Ok-clause-stays_valid g c = IsValid-kept _ (invariant_of-self g c) refl refl refl

pub returns-in-Ok-clause-rechained : goal.returns-in-Ok-clause-rechained
returns-in-Ok-clause-rechained g c =
    let t = c.self.inside.table in
    rw (← c.self.view_is) (c.in-Ok.ensures.rechained ∙ rechained_fitted-table t.rechained (length t.held) t.capacity
    ∙ ap (λ n. rechained_fitted t.rechained n t.capacity) (sym (length-pairs_of t.held)))

pub returns-in-Err-clause-falls : goal.returns-in-Err-clause-falls
returns-in-Err-clause-falls g c =
    let t = c.self.inside.table in
    rw (← c.self.view_is) (omega (
      arith,
      c.in-Err.ensures.falls,
      buckets-table (length t.held),
      buckets-table t.capacity,
      ap buckets (length-pairs_of t.held),
    ))
