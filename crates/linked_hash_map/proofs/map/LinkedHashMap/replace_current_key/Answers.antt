use Rattle.linked_hash_map.proofs.Names.{IsTrue, Some, ap, length, slice_get, subst, sym, ℕ, ◌+◌, ◌<◌, ◌∙◌, ◌≡◌, ◌≤◌, ◌⊎◌, Some-injective}
use Rattle.linked_hash_map.proofs.Names.{pointer_of, IsIndex, LinkedMap, bare, beside, current_at, current_of, pairs_of, visit_of}
use Rattle.linked_hash_map.proofs.nodes.{AbsentKeys.hash_by-respects, Kept.distinct_keys, Outside.IsCurrent, Outside.IsElsewhere}
use Rattle.linked_hash_map.proofs.nodes.Current.{IsAt-current, IsCurrent-outside, MovesCurrent-nodes, current_at-Some}
use Rattle.linked_hash_map.proofs.nodes.CutNodes.{CutAt, CutAt-index_of, held-at, part-at, slice_get-held}
use Rattle.linked_hash_map.proofs.nodes.ReplacedKey.{IsKept-rekeyed, cursor_at-rekeyed, index_of-rekeyed, set_key-rekeyed}
use Rattle.linked_hash_map.proofs.nodes.ReplacedKey.{slice_get-rekeyed, to_visit-rekeyed}
use Rattle.linked_hash_map.proofs.map.LinkedHashMap.replace_current_key.Goals as goal

-- the current pair's node, which is none of those to visit
now : (g : _) (c : goal.After-replace_key g)
    → IsCurrent (visit_of c.self.inside.state) c.self.inside.table.held (pointer_of c.unwrap-at.result)
now g c = IsCurrent-outside c.self.inside.table.held c.self.invariant c.current.ensures c.unwrap-at.ensures c.args.self.now
    (ap (λ m. m.cursor) c.self.view_is) c.requires.outside

cut : (g : _) (c : goal.After-replace_key g) → CutAt (pointer_of c.unwrap-at.result) c.self.inside.table.held
cut g c = CutAt-index_of _ c.self.inside.table.held (now g c).lies

-- its index
index : (g : _) (c : goal.After-replace_key g)
    → current_at (current_of c.self.inside.state) (bare c.self.inside.table.held) ≡ length (cut g c).held.before
index g c = current_at-Some (now g c).is c.self.inside.table.held ∙ sym (cut g c).long

-- its key is the same
same : (g : _) (c : goal.After-replace_key g) → IsTrue (g.K.PartialEq.eq c.args.key (cut g c).held.node.pair.0)
same g c =
    let hs = c.self.inside.table.held in
    let there : IsIndex g.K.PartialEq.eq (pairs_of hs) c.args.key (current_at (current_of c.self.inside.state) (bare hs)) =
    subst (λ (m : LinkedMap g.row.K.Denot g.row.V.Denot g.row.S.Denot). IsIndex g.K.PartialEq.eq m.pairs c.args.key m.cursor.current)
    (sym c.self.view_is) c.requires.same in
    ap (λ pair. g.K.PartialEq.eq c.args.key pair.0)
    (Some-injective _ _ (sym (slice_get-held (cut g c).held) ∙ ap (slice_get (pairs_of hs)) (sym (index g c)) ∙ there.there))
    ∙ there.same

pub replace_key-requires : goal.replace_key-requires
replace_key-requires g c = held-at _ _ (IsAt-current c.self.inside.table.held c.self.invariant c.current.ensures c.unwrap-at.ensures)

pub invariant_of-self : goal.invariant_of-self
invariant_of-self g c =
    let h = (cut g c).held in
    IsKept-rekeyed h c.args.key c.replace_key.ensures.held g.met.K.Eq.laws (same g c) c.self.invariant
    (hash_by-respects g.S.Hasher.Hasher.finish g.S.Hasher.Hasher.write g.S.BuildHasher.build_hasher
    g.met.K.Hash.respects_eq c.self.inside.hasher c.args.key h.node.pair.0 (same g c))
    c.replace_key.ensures.keeps.capacity

pub returns-clause-stored : goal.returns-clause-stored
returns-clause-stored g c =
    let hs = c.self.inside.table.held in
    rw (← c.self.view_is) (part-at hs _ (IsAt-current hs c.self.invariant c.current.ensures c.unwrap-at.ensures) (λ pair. pair.0)
    c.replace_key.ensures.old)

pub returns-clause-pairs : goal.returns-clause-pairs
returns-clause-pairs g c =
    rw (← c.self.view_is) (set_key-rekeyed (cut g c).held c.args.key c.replace_key.ensures.held g.met.K.Eq.laws (same g c)
    (distinct_keys c.self.inside.table.held c.self.invariant))

pub returns-clause-moves : goal.returns-clause-moves
returns-clause-moves g c =
    let m = c.self.inside in let hs = m.table.held in let ks = c.replace_key.new.self.held in
    let visit = visit_of m.state in let h = (cut g c).held in let rekeyed = c.replace_key.ensures.held in
    let as_before = index_of-rekeyed h c.args.key rekeyed (pointer_of c.unwrap-at.result) in
    let bookmark = ap (λ cursor. cursor.bookmark) (cursor_at-rekeyed h c.args.key rekeyed visit) in
    let elsewhere = (now g c).elsewhere in
    rw (← c.self.view_is) (MovesCurrent-nodes m.table c.replace_key.new.self (beside m) (now g c).is c.self.invariant
    (λ pair there. ap (slice_get (pairs_of ks)) (as_before ∙ sym (cut g c).long) ∙ slice_get-rekeyed h c.args.key rekeyed
    ∙ ap (λ p. Some (c.args.key, p.1))
    (Some-injective _ _ (sym (slice_get-held h) ∙ ap (slice_get (pairs_of hs)) (cut g c).long ∙ there)))
    c.replace_key.ensures.keeps
    (to_visit-rekeyed h c.args.key rekeyed visit (subst (λ i. IsElsewhere i visit (bare hs)) (sym (cut g c).long) elsewhere))
    (subst (λ (x : ℕ × ℕ). (x.0 < x.1) ⊎ (x.1 + visit.unvisited ≤ x.0)) (λ i. (sym as_before i, sym bookmark i)) elsewhere)
    (invariant_of-self g c))
