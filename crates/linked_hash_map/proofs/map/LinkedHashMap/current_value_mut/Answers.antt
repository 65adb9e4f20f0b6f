use Rattle.linked_hash_map.proofs.Names.{refl, pointer_of, beside}
use Rattle.linked_hash_map.proofs.nodes.{Current.IsAt-current, HeldPairs.bare-change, Kept.IsKept-same, Kept.IsValid-view}
use Rattle.linked_hash_map.proofs.nodes.CutNodes.{held-at, map_of-written, part-at}
use Rattle.linked_hash_map.proofs.map.LinkedHashMap.current_value_mut.Goals as goal

pub value_mut-requires : goal.value_mut-requires
value_mut-requires g c = held-at _ _ (IsAt-current c.self.inside.table.held c.self.invariant c.current.ensures c.unwrap-at.ensures)

pub invariant_of-self-lent : goal.invariant_of-self-lent
invariant_of-self-lent g c w = IsKept-same (bare-change (pointer_of c.unwrap-at.result) w c.self.inside.table.held) refl c.self.invariant

pub returns : goal.returns
returns g c =
    let m = c.self.inside in let at = IsAt-current m.table.held c.self.invariant c.current.ensures c.unwrap-at.ensures in
    rw (← c.self.view_is) (
      (refl, λ w. map_of-written m.table (beside m) _ at c.value_mut.ensures.alone w refl),
      record {
        writes_back = tt;
        value = part-at m.table.held _ at (λ pair. pair.1) c.value_mut.ensures.value;
        valid = IsValid-view m refl c.self.invariant;
      },
    )
