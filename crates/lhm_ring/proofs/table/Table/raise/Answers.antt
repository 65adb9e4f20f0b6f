use Rattle.lhm_ring.proofs.Names.{ap, arith, buckets, least_more, length, max, nodes_grown, sym, ◌+◌, ◌-◌, ◌<◌, ◌∙◌, ◌≡◌, ◌≤◌}
use Rattle.lhm_ring.proofs.lists.Results.{OnOk-always, OnOk-then}
use Rattle.lhm_ring.proofs.tables.Tables.{IsTable-grown, heads-table, length-capacity, made_raised-stays, rechained_raised-moves}
use Rattle.lhm_ring.proofs.{indexes.BucketCounts.made_raised-higher, tables.Tables.rechained_raised-stays}
use Rattle.lhm_ring.proofs.table.Table.raise.Goals as goal

-- the capacity rises, within the number of buckets
up : (g : _) (c : goal.After-grow_within g) → length c.self.inside.ring.held + c.self.inside.ring.spares < c.args.capacity
up g c = let all = length-capacity c.self.invariant c.self.view_is in omega (arith, all, c.requires.higher)

enough : (g : _) (c : goal.After-grow_within g) → c.args.capacity ≤ length c.self.inside.index.heads
enough g c = omega (arith, c.if-capacity-buckets.true, c.buckets-buckets.ensures)

pub invariant_of-self : goal.invariant_of-self
invariant_of-self g c =
    let all = length-capacity c.self.invariant c.self.view_is in let grown = c.grow_within.ensures in
    IsTable-grown c.self.invariant c.args.capacity (up g c) (enough g c) {t = c.grow_within.new.self}
    c.grow_within.result (omega (arith, c.max.ensures, c.buckets-buckets.ensures))
    (record { held = grown.held; spares = grown.spares; nodes = grown.nodes_within; refused = grown.refused })
    (omega (arith, all, up g c, c.capacity.ensures.value)) c.requires.limit

pub returns-then-capacity-buckets-clause-rechained : goal.returns-then-capacity-buckets-clause-rechained
returns-then-capacity-buckets-clause-rechained g c =
    let all = length-capacity c.self.invariant c.self.view_is in
    rw (← c.self.view_is) (OnOk-always c.grow_within.result (sym (rechained_raised-stays c.self.invariant c.args.capacity
    (omega (arith, all, c.requires.higher)) (omega (arith, c.if-capacity-buckets.true, c.buckets-buckets.ensures)) _)))

pub raise_buckets-requires-clause-more : goal.raise_buckets-requires-clause-more
raise_buckets-requires-clause-more g c =
    let heads = heads-table c.self.invariant c.self.view_is in
    omega (arith, heads, c.buckets-buckets.ensures, c.if-capacity-buckets.false)

pub returns-clause-rechained : goal.returns-clause-rechained
returns-clause-rechained g c =
    OnOk-then c.raise_buckets.result c.raise_buckets.ensures.rechained (λ e. e ∙ sym (rechained_raised-moves c.self.invariant
    c.self.view_is c.args.capacity (omega (arith, c.if-capacity-buckets.false, c.buckets-buckets.ensures))))

pub returns-then-capacity-buckets-clause-made : goal.returns-then-capacity-buckets-clause-made
returns-then-capacity-buckets-clause-made g c =
    let i = c.self.inside in let all = length-capacity c.self.invariant c.self.view_is in
    let more : c.args.capacity - c.capacity.result ≡ c.args.capacity - (length i.ring.held + i.ring.spares) =
    omega (arith, all, c.capacity.ensures.value) in
    let needed : length i.ring.held + i.ring.spares + (c.args.capacity - c.capacity.result) ≡ c.args.capacity =
    omega (arith, more, up g c) in
    let most : c.max.result ≡ max 2 (length i.index.heads) = omega (arith, c.max.ensures, c.buckets-buckets.ensures) in
    rw (← c.self.view_is) (OnOk-then c.grow_within.result c.grow_within.ensures.nodes (λ e. e
    ∙ (λ j. nodes_grown i.ring.nodes (needed j) (least_more (more j) i.ring.nodes (most j)))
    ∙ sym (made_raised-stays c.self.invariant c.args.capacity (up g c) (enough g c))))

pub returns-clause-made : goal.returns-clause-made
returns-clause-made g c =
    let m = c.args.self.now in
    OnOk-then c.raise_buckets.result c.raise_buckets.ensures.made (λ e.
    e ∙ ap (λ n. nodes_grown m.made c.args.capacity (least_more (c.args.capacity - n) m.made (max 2 (buckets c.args.capacity))))
    c.capacity.ensures.value
    ∙ sym (made_raised-higher m.made m.capacity c.args.capacity c.requires.higher))
