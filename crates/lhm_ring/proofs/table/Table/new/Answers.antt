use Rattle.lhm_ring.proofs.{Names.ap, Names.arith, Names.length, tables.IndexedRing.IsIndexed-new}
use Rattle.lhm_ring.proofs.table.Table.new.Goals as goal

pub invariant_of-result : goal.invariant_of-result
invariant_of-result g c =
    let ring = c.new.ensures in
    let none = ring.no_spares in
    let empty = ap length ring.empty in
    record {
      indexed = IsIndexed-new c.new-2.result c.new.result c.new-2.ensures.heads c.new-2.ensures.words ring.empty none;
      few = omega arith;
      limit = omega (arith, none, empty);
      nodes_within = omega (arith, ring.no_nodes);
    }
