use Rattle.linked_hash_map.proofs.Names.{ap, inl, option_map, refl, sym, IsAt-first_at, pointer_of, pointer_of_some, beside, pairs_of}
use Rattle.linked_hash_map.proofs.nodes.CutNodes.{held-at, map_of-written, part-at}
use Rattle.linked_hash_map.proofs.nodes.{FirstAndLast.none-first, HeldPairs.bare-change}
use Rattle.linked_hash_map.proofs.nodes.Kept.{IsKept-same, IsValid-view, distinct_keys}
use Rattle.linked_hash_map.proofs.pairs.Ends.{IsValid-set_first, Updates-set_first, set_value_at-first}
use Rattle.linked_hash_map.proofs.map.LinkedHashMap.front_mut.Goals as goal

pub value_mut-requires : goal.value_mut-requires
value_mut-requires g c = held-at _ _ (IsAt-first_at c.self.inside.table.held c.in-Some.ensures)

pub invariant_of-self-lent : goal.invariant_of-self-lent
invariant_of-self-lent g c w = IsKept-same (bare-change (pointer_of c.in-Some.front) w c.self.inside.table.held) refl c.self.invariant

pub returns-in-Some : goal.returns-in-Some
returns-in-Some g c =
    let m = c.self.inside in let hs = m.table.held in let at = IsAt-first_at hs c.in-Some.ensures in
    let valid = IsValid-view m refl c.self.invariant in
    rw (← c.self.view_is) (
      (λ i. inl (
        c.value_mut.result.ghost_name,
        λ w. map_of-written m.table (beside m) _ at c.value_mut.ensures.alone w (set_value_at-first (pairs_of hs) w) i,
      )),
      record {
        writes_back = tt;
        value = sym (part-at hs _ at (λ pair. pair.1) c.value_mut.ensures.value);
        valid = valid;
        stays_valid = IsValid-set_first valid;
        updates = Updates-set_first g.met.K.Eq.laws (pairs_of hs) (distinct_keys hs c.self.invariant);
      },
    )

pub returns-in-None : goal.returns-in-None
returns-in-None g c =
    let m = c.self.inside in let hs = m.table.held in let valid = IsValid-view m refl c.self.invariant in
    rw (← c.self.view_is) (
      refl,
      record {
        writes_back = tt;
        value = sym (ap (option_map (λ pair. pair.1)) (none-first hs (ap pointer_of_some c.in-None.is) c.first.ensures));
        valid = valid;
        stays_valid = IsValid-set_first valid;
        updates = Updates-set_first g.met.K.Eq.laws (pairs_of hs) (distinct_keys hs c.self.invariant);
      },
    )
