use Rattle.linked_hash_map.proofs.Names.{Some, ap, inl, option_map, refl, sym, ◌∙◌, pointer_of, change_at, revalued, beside, pairs_of}
use Rattle.linked_hash_map.proofs.{Callers.Keys.keys_of-set_value, nodes.CutNodes.pairs_of-change_at, nodes.HeldPairs.bare-change}
use Rattle.linked_hash_map.proofs.nodes.Kept.{IsKept-same, IsValid-view, distinct_keys, map_of-revalued}
use Rattle.linked_hash_map.proofs.{Names.value_at, lists.Options.of-None, lists.Options.of-Some, nodes.StoredKeys.UpdatesBy-set_value}
use Rattle.linked_hash_map.proofs.{nodes.StoredKeys.set_value-stored, pairs.Calls.set_value-none, pairs.Written.IsValid-set_value}
use Rattle.linked_hash_map.proofs.map.LinkedHashMap.get_mut.Goals as goal

pub invariant_of-self-lent : goal.invariant_of-self-lent
invariant_of-self-lent g c w = IsKept-same (bare-change (pointer_of c.in-Some.at) w c.self.inside.table.held) refl c.self.invariant

pub returns-in-Some : goal.returns-in-Some
returns-in-Some g c =
    let m = c.self.inside in let at = pointer_of c.in-Some.at in
    let it = of-Some _ c.in-Some.is c.locate-found.ensures.found in let h = it.has in
    let laws = g.met.K.Eq.laws in let respects = g.met.Q.Equivalent.respects_eq c.args.key in
    let distinct = distinct_keys m.table.held c.self.invariant in
    let valid = IsValid-view m refl c.self.invariant in
    rw (← c.self.view_is) (
      (λ i. inl (
        c.value_mut.result.ghost_name,
        λ w. map_of-revalued m.table (change_at at (revalued w) m.table.held) (beside m) (bare-change at w m.table.held)
            (pairs_of-change_at h.held c.value_mut.ensures.alone w ∙ sym (set_value-stored laws respects h distinct w)) i,
      )),
      record {
        writes_back = tt;
        value = ap Some (c.value_mut.ensures.value h.held.before h.held.node h.held.after h.held.is
            h.held.at_is)
            ∙ sym (ap (option_map (λ pair. pair.1)) it.pair);
        valid = valid;
        updates = UpdatesBy-set_value laws respects h distinct;
        others = λ v. (UpdatesBy-set_value laws respects h distinct v).others;
        keys = λ v. keys_of-set_value g.Q.Equivalent.equivalent (pairs_of m.table.held) c.args.key v;
        stays_valid = IsValid-set_value valid (g.Q.Equivalent.equivalent c.args.key);
      },
    )

pub returns-in-None : goal.returns-in-None
returns-in-None g c =
    let m = c.self.inside in
    let absent = of-None c.in-None.is c.locate-found.ensures.absent in
    rw (← c.self.view_is) (
      refl,
      record {
        writes_back = tt;
        value = sym (ap (option_map (λ pair. pair.1)) absent);
        valid = IsValid-view m refl c.self.invariant;
        updates = λ v. tt;
        others = λ v q apart. ap (λ ps. value_at g.K.PartialEq.eq ps q)
            (set_value-none g.Q.Equivalent.equivalent (pairs_of m.table.held) c.args.key v absent);
        keys = λ v. keys_of-set_value g.Q.Equivalent.equivalent (pairs_of m.table.held) c.args.key v;
        stays_valid = IsValid-set_value (IsValid-view m refl c.self.invariant) (g.Q.Equivalent.equivalent c.args.key);
      },
    )
