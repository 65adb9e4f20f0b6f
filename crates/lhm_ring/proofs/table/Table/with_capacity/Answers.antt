use Rattle.lhm_ring.proofs.{Names.ap, Names.arith, Names.buckets, Names.length, Names.sym, Names.◌∙◌, tables.IndexedRing.IsIndexed-none}
use Rattle.lhm_ring.proofs.table.Table.with_capacity.Goals as goal

pub invariant_of-result : goal.invariant_of-result
invariant_of-result g c =
    let index = c.in_ok-index.ensures in
    let ring = c.in-Ok.ensures in
    let none = ap length ring.empty in
    record {
      indexed = IsIndexed-none c.in_ok-index.index c.in-Ok.ring index.empty index.words ring.empty
          (index.buckets ∙ ap buckets (sym ring.spares));
      few = omega arith;
      limit = omega (arith, none, ring.spares);
      nodes_within = omega (arith, ring.nodes, index.enough);
    }
