use Rattle.lhm_ring.proofs.Names.{None, [], ap, arith, length, length-append, refl, sym, ◌+◌, ◌∙◌, ◌∷◌, ◌≡◌, buckets, pointer_of, IsHeld}
use Rattle.lhm_ring.proofs.{rings.HeldPointers.AtHeld-alone, tables.IndexedRing.length-indexed, tables.Tables.spares-table}
use Rattle.lhm_ring.proofs.{Names.held, Names.pair, indexes.Entries.length-same_entries, indexes.IndexPuts.HoldsOthers-last}
use Rattle.lhm_ring.proofs.table.Table.push_back.Goals as goal

pub put_in_by_hash-requires-clause-some : goal.put_in_by_hash-requires-clause-some
put_in_by_hash-requires-clause-some g c =
    length-indexed c.self.inside.index c.self.inside.ring c.self.invariant.indexed
    (spares-table c.self.invariant c.self.view_is c.requires)

pub put_in_by_hash-requires-clause-held : goal.put_in_by_hash-requires-clause-held
put_in_by_hash-requires-clause-held g c = (HoldsOthers-last _ _ c.put_back-at.ensures.last c.self.invariant.indexed.indexes).held

pub put_in_by_hash-requires-clause-hash : goal.put_in_by_hash-requires-clause-hash
put_in_by_hash-requires-clause-hash g c =
    let p = pointer_of c.put_back-at.result in
    let last : IsHeld c.put_back-at.new.self.held p =
    record {
      before = c.self.inside.ring.held;
      node = held p c.args.hash None (pair c.args.key c.args.value);
      after = [];
      is = c.put_back-at.ensures.last;
      at_is = refl;
    } in
    λ xs t ys e at. ap (λ x. x.hash) (AtHeld-alone c.put_back-at.ensures.apart last xs t ys e at).0

pub invariant_of-self : goal.invariant_of-self
invariant_of-self g c =
    let old = c.self.inside.ring in let new = c.put_in_by_hash.new.ring in let table = c.self.invariant in
    let put = c.put_in_by_hash.ensures in let back = c.put_back-at.ensures in
    let t = held (pointer_of c.put_back-at.result) c.args.hash None (pair c.args.key c.args.value) in
    let long = length-same_entries new.held c.put_back-at.new.self.held put.links.held in
    let sum : length new.held + new.spares ≡ length old.held + old.spares = omega (
      arith,
      long,
      ap length back.last,
      spares-table table c.self.view_is c.requires,
      length-append old.held (t ∷ []),
      put.links.spares,
      back.spares,
    ) in
    record {
      indexed = record {
        indexes = put.indexed (HoldsOthers-last _ _ back.last table.indexed.indexes);
        count = put.buckets ∙ table.indexed.count ∙ ap buckets (sym sum);
      };
      few = omega (arith, table.few, put.buckets);
      limit = omega (arith, sum, table.limit);
      nodes_within = omega (arith, table.nodes_within, put.links.nodes, back.nodes, put.buckets);
    }
