use Rattle.linked_hash_map.proofs.Names.{List, None, Some, ap, drop, refl, rules, sym, take, ◌∙◌, ◌≡◌, IsAt-index_of, remove-at, Held}
use Rattle.linked_hash_map.proofs.Names.{TableState, bare, bookmark_at, bookmark_of, pairs_of, unvisited_of, find, keys_of}
use Rattle.linked_hash_map.proofs.lists.Options.{of-None, of-Some}
use Rattle.linked_hash_map.proofs.nodes.AbsentKeys.{find-LacksKey, hash_by-respects}
use Rattle.linked_hash_map.proofs.{nodes.FoundKeys.index_of-HasKey, nodes.TakenNode.IsKept-removed, pairs.Calls.filter-none}
use Rattle.linked_hash_map.proofs.nodes.Kept.{IsValid-kept, IsValid-view, distinct_keys}
use Rattle.linked_hash_map.proofs.nodes.StoredKeys.{UpdatesBy-absent, UpdatesBy-without, find-stored, length-without_stored, without-stored}
use Rattle.linked_hash_map.proofs.map.LinkedHashMap.remove_entry.Goals as goal

-- a key that is not found is absent
absent : (g : _) (c : goal.After-from_residual g) → find g.Q.Equivalent.equivalent c.args.self.now.pairs c.args.key ≡ None
absent g c =
    let m = c.self.inside in
    rw (← c.self.view_is) (find-LacksKey (hash_by-respects g.S.Hasher.Hasher.finish
    g.S.Hasher.Hasher.write g.S.BuildHasher.build_hasher g.met.Q.Equivalent.respects_hash) m.hasher
    c.args.key c.hash_one-hash.ensures m.table.held c.self.invariant.hashed (of-None c.in_err-pair.was c.remove.ensures.absent))

pub returns-in_err-pair-clause-pair : goal.returns-in_err-pair-clause-pair
returns-in_err-pair-clause-pair g c = c.from_residual.ensures ∙ sym (absent g c)

-- and then no pair changes
same : (g : _) (c : goal.After-from_residual g) → c.remove.new.self.held ≡ c.self.inside.table.held
same g c = ap (λ (s : TableState _). s.held) (of-None c.in_err-pair.was c.remove.ensures.unchanged)

pub returns-in_err-pair-clause-pairs : goal.returns-in_err-pair-clause-pairs
returns-in_err-pair-clause-pairs g c =
    rw (← c.self.view_is) (ap pairs_of (same g c))
    ∙ sym (filter-none (g.Q.Equivalent.equivalent c.args.key) c.args.self.now.pairs (absent g c))

pub returns-in_err-pair-clause-to_visit : goal.returns-in_err-pair-clause-to_visit
returns-in_err-pair-clause-to_visit g c =
    let m = c.self.inside in
    rw (c.from_residual.ensures, ← c.self.view_is)
    (ap (λ (hs : List (Held _)). take (unvisited_of m.state)
    (drop (bookmark_at (bookmark_of m.state) (bare hs)) (keys_of (pairs_of hs)))) (same g c))

pub returns-in_err-pair-clause-updates : goal.returns-in_err-pair-clause-updates
returns-in_err-pair-clause-updates g c =
    UpdatesBy-absent (rw (← c.self.view_is) (ap pairs_of (same g c))) (absent g c)

pub returns-in_err-pair-clause-same : goal.returns-in_err-pair-clause-same
returns-in_err-pair-clause-same g c =
    rw (c.from_residual.ensures, ← c.self.view_is) (ap pairs_of (same g c))

pub invariant_of-self-2 : goal.invariant_of-self-2
invariant_of-self-2 g c =
    let removed = of-Some _ c.in_ok-pair.was c.remove.ensures.removed in
    let lies = index_of-HasKey removed.has in
    IsKept-removed _ _ (remove-at _ _ (IsAt-index_of _ c.self.inside.table.held lies) removed.others) lies
    c.self.invariant c.remove.ensures.keeps.capacity

pub returns : goal.returns
returns g c =
    let hs = c.self.inside.table.held in let removed = of-Some _ c.in_ok-pair.was c.remove.ensures.removed in
    let at = removed.has.held in let laws = g.met.K.Eq.laws in let respects = g.met.Q.Equivalent.respects_eq c.args.key in
    let distinct = distinct_keys hs c.self.invariant in
    rw (← c.self.view_is) (record {
      pair = ap Some (removed.pair_is at.before at.node at.after at.is at.at_is)
          ∙ sym (find-stored laws respects removed.has distinct);
      pairs = without-stored laws respects removed.has distinct removed.others;
      keeps = search rules;
      ends_visit = search rules;
      to_visit = search rules;
      valid = IsValid-view c.self.inside refl c.self.invariant;
      stays_valid = IsValid-kept _ (invariant_of-self-2 g c) refl refl refl;
      updates = UpdatesBy-without laws respects removed.has distinct removed.others;
      fewer = length-without_stored laws respects removed.has distinct removed.others;
      same = search rules;
    })
