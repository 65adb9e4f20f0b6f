use Rattle.linked_hash_map.proofs.Names.{sym, IsAt-first_at, pairs_of}
use Rattle.linked_hash_map.proofs.{nodes.CutNodes.held-at, nodes.CutNodes.pair-at, nodes.Kept.distinct_keys, pairs.Indexes.find-own}
use Rattle.linked_hash_map.proofs.map.LinkedHashMap.front.Goals as goal

pub key-requires : goal.key-requires
key-requires g c = held-at _ _ (IsAt-first_at c.self.inside.table.held c.in_ok-at.ensures)

pub value-requires : goal.value-requires
value-requires g c = held-at _ _ (IsAt-first_at c.self.inside.table.held c.in_ok-at.ensures)

pub returns : goal.returns
returns g c =
    let hs = c.self.inside.table.held in let is = pair-at hs _ (IsAt-first_at hs c.in_ok-at.ensures) c.key.ensures c.value.ensures in
    rw (← c.self.view_is) (record {
      pair = sym is;
      found = find-own g.met.K.Eq.laws (pairs_of hs) (distinct_keys hs c.self.invariant) 0 _ is;
    })
