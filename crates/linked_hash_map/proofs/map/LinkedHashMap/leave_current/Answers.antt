use Rattle.linked_hash_map.proofs.Names.{None, ap, refl, ◌∙◌, pointer_of, beside, map_of, visit_of}
use Rattle.lhm_ring.specs.TableAfterLoan.{with_value}
use Rattle.linked_hash_map.proofs.{lists.Options.cond-None, nodes.HeldPairs.bare-change, nodes.Kept.IsKept-same, nodes.Kept.IsValid-view}
use Rattle.linked_hash_map.proofs.nodes.Current.{IsAt-current, IsKept-left}
use Rattle.linked_hash_map.proofs.nodes.CutNodes.{held-at, map_of-written, part-at}
use Rattle.linked_hash_map.proofs.map.LinkedHashMap.leave_current.Goals as goal

pub value_mut-requires : goal.value_mut-requires
value_mut-requires g c = held-at _ _ (IsAt-current c.self.inside.table.held c.self.invariant c.current.ensures c.unwrap-at.ensures)

pub invariant_of-self-lent : goal.invariant_of-self-lent
invariant_of-self-lent g c w = rw (c.none-self-inside.ensures) (IsKept-left
    (IsKept-same (bare-change (pointer_of c.unwrap-at.result) w c.self.inside.table.held) refl c.self.invariant)
    c.self.inside.state.active)

pub returns : goal.returns
returns g c =
    let m = c.self.inside in let at = IsAt-current m.table.held c.self.invariant c.current.ensures c.unwrap-at.ensures in
    rw (← c.self.view_is, c.none-self-inside.ensures) (
      (
        refl,
        λ w. ap (λ o. map_of (with_value m.table (pointer_of c.unwrap-at.result) w)
            (record (beside m) { visit = record (visit_of m.state) { current = o } }))
            (cond-None m.state.active)
            ∙ map_of-written m.table (record (beside m) { visit = record (visit_of m.state) { current = None } }) _ at
            c.value_mut.ensures.alone w refl,
      ),
      record {
        writes_back = tt;
        value = part-at m.table.held _ at (λ pair. pair.1) c.value_mut.ensures.value;
        valid = IsValid-view m refl c.self.invariant;
      },
    )
