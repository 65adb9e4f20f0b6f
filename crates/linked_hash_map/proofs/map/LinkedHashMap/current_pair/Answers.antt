use Rattle.linked_hash_map.proofs.nodes.{Current.IsAt-current, CutNodes.held-at, CutNodes.pair-at}
use Rattle.linked_hash_map.proofs.map.LinkedHashMap.current_pair.Goals as goal

pub key-requires : goal.key-requires
key-requires g c = held-at _ _ (IsAt-current c.self.inside.table.held c.self.invariant c.current.ensures c.unwrap-at.ensures)

pub value-requires : goal.value-requires
value-requires g c = held-at _ _ (IsAt-current c.self.inside.table.held c.self.invariant c.current.ensures c.unwrap-at.ensures)

pub returns-clause-pair : goal.returns-clause-pair
returns-clause-pair g c =
    let hs = c.self.inside.table.held in
    rw (← c.self.view_is)
    (pair-at hs _ (IsAt-current hs c.self.invariant c.current.ensures c.unwrap-at.ensures) c.key.ensures c.value.ensures)
