use Rattle.linked_hash_map.proofs.Names.{Bool, ap, inl, option_map, refl, sym, ◌∙◌, beside, map_of, pairs_of, lookup_entry}
use Rattle.linked_hash_map.proofs.lists.Options.{of-None, of-Some}
use Rattle.linked_hash_map.proofs.nodes.{CutNodes.held-at, FoundKeys.IsIndex-index_of, Kept.IsValid-view, Kept.distinct_keys, Kept.no_visit}
use Rattle.linked_hash_map.proofs.nodes.PutPair.{IsKept-put, IsTouchedAt-back, pairs-put, touched_at, value_at-touched}
use Rattle.linked_hash_map.proofs.nodes.StoredKeys.{HasKey-stored, IsValid-refreshed, UpdatesBy-to_back_by, eq-stored, last-to_back_by}
use Rattle.linked_hash_map.proofs.nodes.StoredKeys.{length-to_back_by, to_back_by-stored}
use Rattle.linked_hash_map.proofs.map.LinkedHashMap.get_refresh.Goals as goal

pub value_mut-requires : goal.value_mut-requires
value_mut-requires g c =
    let has = (of-Some _ c.in-Some.is c.locate-found.ensures.found).has in
    held-at _ _ (touched_at (IsTouchedAt-back has c.move_to_back.ensures.held c.move_to_back.ensures.last))

pub invariant_of-self-lent : goal.invariant_of-self-lent
invariant_of-self-lent g c w =
    let has = (of-Some _ c.in-Some.is c.locate-found.ensures.found).has in let back = c.move_to_back.ensures in
    IsKept-put g.met.K.Eq.laws (IsTouchedAt-back has back.held back.last) c.self.invariant back.keeps.capacity w

pub returns-in-Some : goal.returns-in-Some
returns-in-Some g c =
    let m = c.self.inside in let moved = c.move_to_back.ensures in
    let has = (of-Some _ c.in-Some.is c.locate-found.ensures.found).has in
    let laws = g.met.K.Eq.laws in let respects = g.met.Q.Equivalent.respects_eq c.args.key in
    let distinct = distinct_keys m.table.held c.self.invariant in
    let valid = IsValid-view m refl c.self.invariant in
    let as_key = g.Q.Equivalent.as_key c.args.key in
    let index = IsIndex-index_of (HasKey-stored laws respects has) in
    let at = IsTouchedAt-back has moved.held moved.last in
    rw (← c.self.view_is) (
      (λ i. inl (
        c.value_mut.result.ghost_name,
        λ w. record (map_of m.table (record (beside m) { visit = no_visit })) {
          pairs = (pairs-put laws index distinct at c.value_mut.ensures.alone w
              ∙ sym (to_back_by-stored laws respects has distinct as_key w)) i;
          capacity = moved.keeps.capacity i;
          rechained = moved.keeps.rechained i;
        },
      )),
      record {
        writes_back = tt;
        value = value_at-touched laws index distinct at c.value_mut.ensures.value
            ∙ ap (λ (test : g.row.K.Denot → Bool). option_map (λ pair. pair.1)
            (lookup_entry test (pairs_of m.table.held))) (eq-stored laws respects has);
        valid = valid;
        updates = UpdatesBy-to_back_by laws respects has distinct as_key;
        back = last-to_back_by laws respects has distinct as_key;
        as_many = length-to_back_by laws respects has distinct as_key;
        stays_valid = λ v. IsValid-refreshed laws respects has distinct as_key v valid refl;
      },
    )

pub returns-in-None : goal.returns-in-None
returns-in-None g c =
    let m = c.self.inside in
    rw (← c.self.view_is) (
      refl,
      record {
        writes_back = tt;
        value = sym (ap (option_map (λ pair. pair.1)) (of-None c.in-None.is c.locate-found.ensures.absent));
        valid = IsValid-view c.self.inside refl c.self.invariant;
        updates = λ v. tt;
        back = λ v. tt;
        as_many = λ v. tt;
        stays_valid = λ v. tt;
      },
    )
