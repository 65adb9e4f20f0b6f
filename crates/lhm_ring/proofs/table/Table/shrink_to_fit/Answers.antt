use Rattle.lhm_ring.proofs.Names.{ap, arith, buckets, entries, length, made_fitted, rechained_fitted, sym, ◌+◌, ◌∙◌, ◌≡◌}
use Rattle.lhm_ring.proofs.indexes.BucketCounts.{buckets-zero, made_fitted-none, rechained_fitted-none}
use Rattle.lhm_ring.proofs.indexes.Entries.{length-entries}
use Rattle.lhm_ring.proofs.table.Table.shrink_to_fit.Goals as goal

none : (g : _) (c : goal.After-free g) → length (entries c.self.inside.ring.held) ≡ 0
none g c = length-entries c.self.inside.ring.held ∙ sym c.len-len.ensures.value ∙ c.if-len-eq0.true

pub returns-then-len-eq0-clause-rechained : goal.returns-then-len-eq0-clause-rechained
returns-then-len-eq0-clause-rechained g c =
    let i = c.self.inside in let capacity = length i.ring.held + i.ring.spares in let table = c.self.invariant in
    rw (← c.self.view_is) (c.free.ensures.rechained
    ∙ sym (ap (λ n. rechained_fitted i.rechained n capacity) (none g c) ∙ rechained_fitted-none i.rechained capacity
    (λ e. omega (arith, table.few, table.indexed.count, ap buckets e ∙ buckets-zero))))

pub returns-then-len-eq0-clause-made : goal.returns-then-len-eq0-clause-made
returns-then-len-eq0-clause-made g c =
    let i = c.self.inside in let capacity = length i.ring.held + i.ring.spares in let table = c.self.invariant in
    rw (← c.self.view_is) (c.free.ensures.made
    ∙ sym (ap (λ n. made_fitted i.ring.nodes n capacity) (none g c) ∙ made_fitted-none i.ring.nodes capacity
    (omega (arith, table.nodes_within, table.indexed.count))))
