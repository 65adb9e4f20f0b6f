use Rattle.linked_hash_map.proofs.Names.{ap, refl, remove, rules, sym, ◌∙◌, ◌≡◌, IsAt-index_of, pointer_of, index_of, pairs_of, visit_of}
use Rattle.linked_hash_map.proofs.nodes.Current.{IsAt-current, IsCurrent-outside, IsKept-left, current_at-Some}
use Rattle.linked_hash_map.proofs.nodes.{CutNodes.held-at, Outside.IsCurrent, Kept.IsValid-kept, Kept.IsValid-view}
use Rattle.linked_hash_map.proofs.nodes.TakenNode.{IsKept-taken, pairs-removed, to_visit-removed}
use Rattle.linked_hash_map.proofs.map.LinkedHashMap.remove_current.Goals as goal

pub remove_at-requires : goal.remove_at-requires
remove_at-requires g c = held-at _ _ (IsAt-current c.self.inside.table.held c.self.invariant c.current.ensures c.unwrap-at.ensures)

-- the current pair's node, which is none of those to visit
now : (g : _) (c : goal.After-remove_at g)
    → IsCurrent (visit_of c.self.inside.state) c.self.inside.table.held (pointer_of c.unwrap-at.result)
now g c = IsCurrent-outside c.self.inside.table.held c.self.invariant c.current.ensures c.unwrap-at.ensures c.args.self.now
    (ap (λ m. m.cursor) c.self.view_is) c.requires.outside

others : (g : _) (c : goal.After-remove_at g) → c.remove_at.new.self.held
    ≡ remove c.self.inside.table.held (index_of (pointer_of c.unwrap-at.result) c.self.inside.table.held)
others g c = c.remove_at.ensures.others _ (IsAt-index_of _ c.self.inside.table.held (now g c).lies)

pub invariant_of-self : goal.invariant_of-self
invariant_of-self g c =
    rw (c.none-self-inside.ensures)
    (IsKept-left (IsKept-taken _ _ (others g c) (now g c).lies c.self.invariant (now g c).elsewhere
    c.remove_at.ensures.keeps.capacity) c.self.inside.state.active)

pub returns : goal.returns
returns g c =
    let hs = c.self.inside.table.held in let current = now g c in
    rw (← c.self.view_is) (record {
      pair = c.remove_at.ensures.pair _ (IsAt-current hs c.self.invariant c.current.ensures c.unwrap-at.ensures);
      pairs = pairs-removed _ _ (others g c) ∙ ap (remove (pairs_of hs)) (sym (current_at-Some current.is hs));
      keeps = search rules;
      to_visit = to_visit-removed _ _ (others g c) current.lies c.self.invariant current.elsewhere;
      valid = IsValid-view c.self.inside refl c.self.invariant;
      stays_valid = IsValid-kept _ (invariant_of-self g c) refl refl refl;
    })
