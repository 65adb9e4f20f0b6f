use Rattle.linked_hash_map.proofs.Names.{refl, beside, map_of, pairs_of, loan_name, read_of}
use Rattle.linked_hash_map.proofs.nodes.{HeldPairs.bare-values, Kept.IsKept-same, Kept.IsValid-view, Kept.map_of-values}
use Rattle.linked_hash_map.proofs.pairs.IteratorLaws.{keys_stand, lends_in_order, lends_in_reverse}
use Rattle.linked_hash_map.proofs.map.LinkedHashMap.iter_mut.Goals as goal

pub invariant_of-self-lent : goal.invariant_of-self-lent
invariant_of-self-lent g c = λ _. ((λ vs. IsKept-same (bare-values c.self.inside.table.held vs) refl c.self.invariant), c.self.invariant)

pub returns : goal.returns
returns g c =
    let m = c.self.inside in
    rw (← c.self.view_is) (
      (λ j. read_of (loan_name c.over.result) (λ vs. map_of-values m.table vs (beside m) j) (map_of m.table (beside m))),
      record {
        writes_back = tt;
        keeps = keys_stand (pairs_of m.table.held);
        rest = c.over.ensures.rest;
        valid = IsValid-view c.self.inside refl c.self.invariant;
        runs = lends_in_order _;
        runs_back = lends_in_reverse _;
      },
    )
