use Rattle.lhm_ring.proofs.Names.{ap, arith, buckets, length, refl, sym, ◌+◌, ◌∙◌, ◌≡◌}
use Rattle.lhm_ring.proofs.tables.{IndexedRing.IsIndexed-none, Tables.table_of-drained, Tables.triples-table}
use Rattle.lhm_ring.specs.RingAfterLoan.{all_spare}
use Rattle.lhm_ring.proofs.table.Table.drain.Goals as goal

pub returns : goal.returns
returns g c = (
  (refl, λ _. table_of-drained c.self.invariant c.self.view_is),
  record { writes_back = tt; rest = c.splice_all.ensures.rest ∙ triples-table c.self.invariant c.self.view_is },
)

pub invariant_of-self-lent : goal.invariant_of-self-lent
invariant_of-self-lent g c _ =
    let t = c.self.invariant in let e = c.clear.ensures in let s = c.self.inside.ring in
    let all : length s.held + s.spares ≡ s.spares + length s.held = omega arith in
    record {
      indexed = IsIndexed-none c.clear.new.self (all_spare s) e.empty
          (e.words ∙ t.indexed.indexes.count ∙ sym e.buckets) refl (e.buckets ∙ t.indexed.count ∙ ap buckets all);
      few = omega (arith, t.few, e.buckets);
      limit = omega (arith, t.limit);
      nodes_within = omega (arith, t.nodes_within, e.buckets);
    }
