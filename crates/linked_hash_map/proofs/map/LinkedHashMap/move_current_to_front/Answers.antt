use Rattle.linked_hash_map.proofs.Names.{ap, ap₂, option_to_list, remove, slice_get, subst, sym, ◌++◌, ◌∙◌, ◌≡◌, IsAt-index_of, pointer_of}
use Rattle.linked_hash_map.proofs.Names.{index_of, to_front_at, IsIndex, beside, pairs_of, visit_of}
use Rattle.linked_hash_map.proofs.nodes.Current.{IsAt-current, IsCurrent-outside, MovesCurrent-nodes, current_at-Some}
use Rattle.linked_hash_map.proofs.{nodes.CutNodes.held-at, nodes.Kept.distinct_keys, nodes.Outside.IsCurrent, pairs.Indexes.to_front-index}
use Rattle.linked_hash_map.proofs.nodes.MovedToFront.{IsKept-moved, elsewhere-moved, index_of-to_front, pairs-moved, to_visit-moved}
use Rattle.linked_hash_map.proofs.map.LinkedHashMap.move_current_to_front.Goals as goal

pub move_to_front-requires : goal.move_to_front-requires
move_to_front-requires g c = held-at _ _ (IsAt-current c.self.inside.table.held c.self.invariant c.current.ensures c.unwrap-at.ensures)

-- the current pair's node, which is none of those to visit
now : (g : _) (c : goal.After-move_to_front g)
    → IsCurrent (visit_of c.self.inside.state) c.self.inside.table.held (pointer_of c.unwrap-at.result)
now g c = IsCurrent-outside c.self.inside.table.held c.self.invariant c.current.ensures c.unwrap-at.ensures c.args.self.now
    (ap (λ m. m.cursor) c.self.view_is) c.requires.outside

held : (g : _) (c : goal.After-move_to_front g) → c.move_to_front.new.self.held
    ≡ to_front_at c.self.inside.table.held (index_of (pointer_of c.unwrap-at.result) c.self.inside.table.held)
held g c = c.move_to_front.ensures.held _ (IsAt-index_of _ c.self.inside.table.held (now g c).lies)

pub invariant_of-self : goal.invariant_of-self
invariant_of-self g c = IsKept-moved _ _ (held g c) c.self.invariant (now g c) g.met.K.Eq.laws c.move_to_front.ensures.keeps.capacity

pub returns : goal.returns
returns g c =
    let m = c.self.inside in let hs = m.table.held in let p = pointer_of c.unwrap-at.result in let current = now g c in
    rw (← c.self.view_is) (record {
      pairs = λ key index.
          let here = subst (IsIndex g.K.PartialEq.eq (pairs_of hs) key) (current_at-Some current.is hs) index in
          pairs-moved hs p (held g c) ∙ sym (to_front-index g.met.K.Eq.laws (distinct_keys hs c.self.invariant) here);
      moves = MovesCurrent-nodes m.table c.move_to_front.new.self (beside m) current.is c.self.invariant
          (λ pair was. ap₂ (λ ps i. slice_get ps i)
          (pairs-moved hs p (held g c) ∙ ap (λ o. option_to_list o ++ remove (pairs_of hs) (index_of p hs)) was)
          (index_of-to_front _ _ (held g c) current.lies)) c.move_to_front.ensures.keeps
          (to_visit-moved _ _ (held g c) c.self.invariant current) (elsewhere-moved _ _ (held g c) c.self.invariant current)
          (invariant_of-self g c);
    })
