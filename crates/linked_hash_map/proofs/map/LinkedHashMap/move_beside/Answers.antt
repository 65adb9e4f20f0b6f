use Rattle.linked_hash_map.proofs.Names.{ap, ap₂, cond, drop, filter, is_some, not, option_to_list, refl, sym, take, ◌&&◌, ◌++◌, ◌+◌, ◌∙◌}
use Rattle.linked_hash_map.proofs.Names.{◌≡◌, IsAt-index_of, pointer_of, index_of, to_before_at, HasKey, pairs_of, find, lookup_entry}
use Rattle.linked_hash_map.proofs.nodes.{Kept.IsValid-kept, Kept.distinct_keys, StoredKeys.HasKey-stored}
use Rattle.linked_hash_map.proofs.nodes.MovedBeside.{IsKept-beside, count_before-stored, length-beside, pairs-beside, to_behind-stored}
use Rattle.linked_hash_map.{proofs.Callers.Beside.find-to_behind, proofs.pairs.Places.to_behind-index, proofs.lists.Options.of-None}
use Rattle.linked_hash_map.{proofs.lists.Options.of-Some, proofs.nodes.FoundKeys.IsIndex-index_of, proofs.nodes.FoundKeys.index_of-HasKey}
use Rattle.linked_hash_map.proofs.map.LinkedHashMap.move_beside.Goals as goal

-- the positions that are found are those of the two keys
has : (g : _) (c : goal.After-move_before g)
    → HasKey (g.Q.Equivalent.equivalent c.args.key) c.locate-found.result.0 c.self.inside.table.held (pointer_of c.in-Some.at)
has g c = (of-Some _ c.in-Some.is c.locate-found.ensures.found).has

has_other : (g : _) (c : goal.After-move_before g) → HasKey (g.P.Equivalent.equivalent c.args.other)
    c.locate-found_other.result.0 c.self.inside.table.held (pointer_of c.in-Some-found_other.beside)
has_other g c = (of-Some _ c.in-Some-found_other.is c.locate-found_other.ensures.found).has

pub move_before-requires-clause-at : goal.move_before-requires-clause-at
move_before-requires-clause-at g c = (of-Some _ c.in-Some.is c.locate-found.ensures.found).has.held

pub place_beside-next-requires : goal.place_beside-next-requires
place_beside-next-requires g c = (of-Some _ c.in-Some-found_other.is c.locate-found_other.ensures.found).has.held

-- the pair of the one goes before or after that of the other
held : (g : _) (c : goal.After-move_before g) → c.move_before.new.self.held
    ≡ to_before_at c.self.inside.table.held (index_of (pointer_of c.in-Some.at) c.self.inside.table.held)
    (cond c.args.after (index_of (pointer_of c.in-Some-found_other.beside) c.self.inside.table.held + 1)
    (index_of (pointer_of c.in-Some-found_other.beside) c.self.inside.table.held))
held g c =
    let hs = c.self.inside.table.held in
    c.move_before.ensures.held _ _ (IsAt-index_of _ hs (index_of-HasKey (has g c)))
    (c.place_beside-next.ensures.place _ (IsAt-index_of _ hs (index_of-HasKey (has_other g c))))

pub invariant_of-self : goal.invariant_of-self
invariant_of-self g c = IsKept-beside _ _ _ (held g c) g.met.K.Eq.laws c.self.invariant c.move_before.ensures.keeps.capacity

pub returns-clause-found : goal.returns-clause-found
returns-clause-found g c =
    rw (← c.self.view_is) (sym (ap₂ (λ o p. is_some o && is_some p) (of-Some _ c.in-Some.is c.locate-found.ensures.found).pair
    (of-Some _ c.in-Some-found_other.is c.locate-found_other.ensures.found).pair))

pub returns-clause-pairs : goal.returns-clause-pairs
returns-clause-pairs g c _ =
    let hs = c.self.inside.table.held in let laws = g.met.K.Eq.laws in let distinct = distinct_keys hs c.self.invariant in
    let is_key = g.Q.Equivalent.equivalent c.args.key in
    rw (← c.self.view_is) (
    pairs-beside hs _ _ (held g c)
    ∙ sym (to_behind-stored laws (g.met.Q.Equivalent.respects_eq c.args.key) distinct (has g c) _)
    ∙ ap (λ j. let n = cond c.args.after (j + 1) j in filter (λ pair. not (is_key pair.0)) (take n (pairs_of hs))
    ++ (option_to_list (lookup_entry is_key (pairs_of hs)) ++ filter (λ pair. not (is_key pair.0)) (drop n (pairs_of hs))))
    (sym (count_before-stored laws (g.met.P.Equivalent.respects_eq c.args.other) distinct (has_other g c)))
    )

pub returns-clause-stays_valid : goal.returns-clause-stays_valid
returns-clause-stays_valid g c = IsValid-kept _ (invariant_of-self g c) refl refl refl

pub returns-clause-len : goal.returns-clause-len
returns-clause-len g c = rw (← c.self.view_is) (length-beside _ _ _ (held g c))

pub returns-clause-finds : goal.returns-clause-finds
returns-clause-finds g c =
    let hs = c.self.inside.table.held in let laws = g.met.K.Eq.laws in let distinct = distinct_keys hs c.self.invariant in
    let there = IsIndex-index_of (HasKey-stored laws (g.met.Q.Equivalent.respects_eq c.args.key) (has g c)) in
    rw (← c.self.view_is) (λ q. ap (λ pairs. find g.K.PartialEq.eq pairs q)
    (pairs-beside hs _ _ (held g c) ∙ sym (to_behind-index laws distinct there _))
    ∙ find-to_behind laws (pairs_of hs) _ _ q)

pub returns-in_default-clause-found : goal.returns-in_default-clause-found
returns-in_default-clause-found g c =
    let pairs = pairs_of c.self.inside.table.held in
    rw (← c.self.view_is) (sym (ap (λ o. is_some o && is_some (find g.P.Equivalent.equivalent pairs c.args.other))
    (of-None c.in_default.is c.locate-found.ensures.absent)))

pub returns-in_default-found_other-clause-found : goal.returns-in_default-found_other-clause-found
returns-in_default-found_other-clause-found g c =
    rw (← c.self.view_is) (sym (ap₂ (λ o p. is_some o && is_some p) (of-Some _ c.in-Some.is c.locate-found.ensures.found).pair
    (of-None c.in_default-found_other.is c.locate-found_other.ensures.absent)))
