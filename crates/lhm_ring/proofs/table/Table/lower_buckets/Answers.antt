use Rattle.lhm_ring.proofs.Names.{ap, arith, buckets, length, triples, ◌+◌, ◌∙◌, ◌≡◌}
use Rattle.lhm_ring.proofs.indexes.Entries.{length-same_entries, length-same_triples, triples-entries}
use Rattle.lhm_ring.proofs.tables.Tables.{length-table, triples-table}
use Rattle.lhm_ring.proofs.table.Table.lower_buckets.Goals as goal

long : (g : _) (c : goal.After-self-1 g) → length c.take_over-self-inside.new.ring.held ≡ length c.self.inside.ring.held
long g c = length-same_entries c.take_over-self-inside.new.ring.held c.compact.new.self.held c.take_over-self-inside.ensures.links.held
    ∙ length-same_triples c.compact.new.self.held c.self.inside.ring.held c.in-Ok.ensures.triples

pub invariant_of-self : goal.invariant_of-self
invariant_of-self g c =
    let taken = c.take_over-self-inside.ensures in let fresh = c.in_ok-fresh.ensures in let len = c.len.ensures in
    let ring = c.take_over-self-inside.new.ring in
    let moved = length-same_triples c.compact.new.self.held c.self.inside.ring.held c.in-Ok.ensures.triples in
    let sum : c.len.result ≡ length ring.held + ring.spares =
    omega (arith, long g c, taken.links.spares, c.in-Ok.ensures.spares, len.value) in
    record {
      indexed = record { indexes = taken.indexed; count = taken.buckets ∙ fresh.buckets ∙ ap buckets sum };
      few = omega (arith, taken.count, moved, len.value, fresh.enough, taken.buckets);
      limit = omega (arith, sum, len.value, len.bounded);
      nodes_within = omega (arith, taken.links.nodes, c.in-Ok.ensures.nodes, len.value, fresh.enough, taken.buckets);
    }

pub returns-in-Ok-clause-triples : goal.returns-in-Ok-clause-triples
returns-in-Ok-clause-triples g c =
    ap triples c.take_over-self-inside.ensures.links.held ∙ triples-entries c.compact.new.self.held ∙ c.in-Ok.ensures.triples
    ∙ triples-table c.self.invariant c.self.view_is

pub returns-in-Ok-clause-capacity : goal.returns-in-Ok-clause-capacity
returns-in-Ok-clause-capacity g c =
    let seen = length-table c.self.invariant c.self.view_is in
    omega (arith, long g c, seen, c.take_over-self-inside.ensures.links.spares, c.in-Ok.ensures.spares)

pub returns-in-Ok-clause-made : goal.returns-in-Ok-clause-made
returns-in-Ok-clause-made g c =
    c.take_over-self-inside.ensures.links.nodes ∙ c.in-Ok.ensures.nodes ∙ length-table c.self.invariant c.self.view_is
