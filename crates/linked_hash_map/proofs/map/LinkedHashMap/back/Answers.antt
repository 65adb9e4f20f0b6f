use Rattle.linked_hash_map.proofs.{Names.length, Names.sym, Names.◌-◌, Names.pairs_of, nodes.CutNodes.held-at, nodes.CutNodes.pair-at}
use Rattle.linked_hash_map.proofs.{nodes.FirstAndLast.IsAt-last, nodes.Kept.distinct_keys, pairs.Indexes.find-own}
use Rattle.linked_hash_map.proofs.map.LinkedHashMap.back.Goals as goal

pub key-requires : goal.key-requires
key-requires g c = held-at _ _ (IsAt-last c.self.inside.table.held c.in_ok-at.ensures.last)

pub value-requires : goal.value-requires
value-requires g c = held-at _ _ (IsAt-last c.self.inside.table.held c.in_ok-at.ensures.last)

pub returns : goal.returns
returns g c =
    let hs = c.self.inside.table.held in let is = pair-at hs _ (IsAt-last hs c.in_ok-at.ensures.last) c.key.ensures c.value.ensures in
    rw (← c.self.view_is) (record {
      pair = sym is;
      found = find-own g.met.K.Eq.laws (pairs_of hs) (distinct_keys hs c.self.invariant) (length (pairs_of hs) - 1) _ is;
    })
