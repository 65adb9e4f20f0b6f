use Rattle.linked_hash_map.proofs.Names.{Bool, ap, filter, is_some, not, option_to_list, refl, rules, sym, ◌++◌, ◌∙◌, ◌≡◌, IsAt-index_of}
use Rattle.linked_hash_map.proofs.Names.{pointer_of, index_of, to_back_at, HasKey, pairs_of, find, last, to_back_as_is, lookup_entry}
use Rattle.linked_hash_map.proofs.Callers.{Ends.last-to_back_as_is, Moves.find-to_back_as_is, Moves.to_back_as_is-absent}
use Rattle.linked_hash_map.proofs.{lists.Options.of-None, lists.Options.of-Some, nodes.StoredKeys.HasKey-stored, nodes.StoredKeys.eq-stored}
use Rattle.linked_hash_map.proofs.{nodes.HeldPairs.length-pairs_of, pairs.Indexes.to_back_as_is-index}
use Rattle.linked_hash_map.proofs.nodes.{FoundKeys.IsIndex-index_of, FoundKeys.index_of-HasKey, Kept.IsValid-kept, Kept.IsValid-view}
use Rattle.linked_hash_map.proofs.nodes.{Kept.distinct_keys, MovedNode.IsKept-back, MovedNode.length-moved, MovedNode.pairs-moved}
use Rattle.linked_hash_map.proofs.map.LinkedHashMap.move_to_back.Goals as goal

-- a position that is found is that of the key
has : (g : _) (c : goal.After-move_to_back g)
    → HasKey (g.Q.Equivalent.equivalent c.args.key) c.locate-found.result.0 c.self.inside.table.held
    (pointer_of c.in-Some.at)
has g c = (of-Some _ c.in-Some.is c.locate-found.ensures.found).has

-- its pair is moved
held : (g : _) (c : goal.After-move_to_back g) → c.move_to_back.new.self.held
    ≡ to_back_at c.self.inside.table.held (index_of (pointer_of c.in-Some.at) c.self.inside.table.held)
held g c = c.move_to_back.ensures.held _ (IsAt-index_of _ c.self.inside.table.held (index_of-HasKey (has g c)))

-- which is that of the stored key
moved : (g : _) (c : goal.After-move_to_back g) → pairs_of c.move_to_back.new.self.held
    ≡ to_back_as_is g.K.PartialEq.eq (pairs_of c.self.inside.table.held) (has g c).held.node.pair.0
moved g c =
    let laws = g.met.K.Eq.laws in
    pairs-moved _ _ (held g c) ∙ sym (to_back_as_is-index laws (distinct_keys c.self.inside.table.held c.self.invariant)
    (IsIndex-index_of (HasKey-stored laws (g.met.Q.Equivalent.respects_eq c.args.key) (has g c))))

pub invariant_of-self : goal.invariant_of-self
invariant_of-self g c = IsKept-back _ _ (held g c) g.met.K.Eq.laws c.self.invariant c.move_to_back.ensures.keeps.capacity

pub returns-in-Some : goal.returns-in-Some
returns-in-Some g c =
    let hs = c.self.inside.table.held in let laws = g.met.K.Eq.laws in
    let found = ap is_some (of-Some _ c.in-Some.is c.locate-found.ensures.found).pair in
    let pairs = moved g c ∙ ap (λ (test : g.row.K.Denot → Bool). filter (λ pair. not (test pair.0)) (pairs_of hs)
    ++ option_to_list (lookup_entry test (pairs_of hs)))
    (eq-stored laws (g.met.Q.Equivalent.respects_eq c.args.key) (has g c)) in
    rw (← c.self.view_is) (record {
      found = sym found;
      pairs = pairs;
      last = λ yes. ap last pairs ∙ last-to_back_as_is g.Q.Equivalent.equivalent (pairs_of hs) c.args.key found;
      keeps = search rules;
      ends_visit = search rules;
      unchanged = search rules;
      valid = IsValid-view c.self.inside refl c.self.invariant;
      stays_valid = IsValid-kept _ (invariant_of-self g c) refl refl refl;
      len = length-pairs_of c.move_to_back.new.self.held ∙ length-moved _ _ (held g c) ∙ sym (length-pairs_of hs);
      finds = λ q. ap (λ pairs. find g.K.PartialEq.eq pairs q) (moved g c)
          ∙ find-to_back_as_is laws (pairs_of hs) (has g c).held.node.pair.0 q;
    })

pub returns-in-None-clause-found : goal.returns-in-None-clause-found
returns-in-None-clause-found g c =
    rw (← c.self.view_is) (sym (ap is_some (of-None c.in-None.is c.locate-found.ensures.absent)))

pub returns-in-None-clause-pairs : goal.returns-in-None-clause-pairs
returns-in-None-clause-pairs g c =
    rw (← c.self.view_is) (sym (to_back_as_is-absent g.Q.Equivalent.equivalent (pairs_of c.self.inside.table.held) c.args.key
    (of-None c.in-None.is c.locate-found.ensures.absent)))
