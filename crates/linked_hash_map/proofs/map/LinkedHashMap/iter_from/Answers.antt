use Rattle.linked_hash_map.proofs.Names.{ap, subst, ◌∙◌, from, IsDistinct, deref_pair}
use Rattle.linked_hash_map.proofs.{lists.Options.of-Some, pairs.IteratorLaws.shows_in_order}
use Rattle.linked_hash_map.proofs.nodes.{HeldPairs.keys-bare, NodesFrom.pairs_from-key}
use Rattle.linked_hash_map.proofs.map.LinkedHashMap.iter_from.Goals as goal

pub returns-in_err-found-clause-runs : goal.returns-in_err-found-clause-runs
returns-in_err-found-clause-runs g c = shows_in_order deref_pair

pub returns-clause-pairs : goal.returns-clause-pairs
returns-clause-pairs g c =
    let hs = c.self.inside.table.held in
    let has = (of-Some _ c.in_ok-found.was c.locate-found.ensures.found).has in
    let distinct = subst (IsDistinct g.K.PartialEq.eq) (keys-bare hs) c.self.invariant.distinct in
    c.new.ensures ∙ pairs_from-key g.met.K.Eq.laws (g.met.Q.Equivalent.respects_eq c.args.key) has distinct
    ∙ ap (λ m. from g.Q.Equivalent.equivalent m.pairs c.args.key) c.self.view_is

pub returns-clause-runs : goal.returns-clause-runs
returns-clause-runs g c = shows_in_order deref_pair
