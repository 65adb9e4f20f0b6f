use Rattle.linked_hash_map.proofs.Names.{refl, sym}
use Rattle.linked_hash_map.proofs.{Callers.Valid.IsValid-drained, nodes.EmptyMap.IsKept-none, nodes.Kept.IsValid-view}
use Rattle.linked_hash_map.proofs.nodes.Drained.{drains_in_order, drains_in_reverse, rest_drained, stays, stays_back}
use Rattle.linked_hash_map.proofs.map.LinkedHashMap.drain.Goals as goal

pub invariant_of-self-lent : goal.invariant_of-self-lent
invariant_of-self-lent g c = λ _. IsKept-none refl c.self.invariant.limit

pub returns : goal.returns
returns g c =
    rw (← c.self.view_is) (
      (sym c.new.ensures.name, λ _. refl),
      record {
        writes_back = tt;
        rest = rest_drained c.new.result _ c.self.inside.table.held c.new.ensures.rest c.drain.ensures.rest;
        valid = IsValid-view c.self.inside refl c.self.invariant;
        stays_valid = IsValid-drained (IsValid-view c.self.inside refl c.self.invariant);
        runs = drains_in_order;
        runs_back = drains_in_reverse;
        stays = stays _;
        stays_back = stays_back _;
      },
    )
