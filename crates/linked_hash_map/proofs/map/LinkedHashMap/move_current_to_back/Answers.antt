use Rattle.linked_hash_map.proofs.Names.{ap, subst, sym, ◌∙◌, IsAt-index_of, pointer_of, IsIndex, beside, pairs_of, visit_of, Touch}
use Rattle.linked_hash_map.proofs.nodes.Current.{IsAt-current, IsCurrent-outside, MovesCurrent-nodes, current_at-Some}
use Rattle.linked_hash_map.proofs.nodes.{CutNodes.held-at, Kept.distinct_keys, MovedNode.pairs-moved, Outside.IsCurrent}
use Rattle.linked_hash_map.proofs.nodes.PutPair.{IsKept-touched, IsTouchedAt, elsewhere-touched, slice_get-touched, to_visit-touched}
use Rattle.linked_hash_map.proofs.pairs.Indexes.{to_back_as_is-index}
use Rattle.linked_hash_map.proofs.map.LinkedHashMap.move_current_to_back.Goals as goal

pub move_to_back-requires : goal.move_to_back-requires
move_to_back-requires g c = held-at _ _ (IsAt-current c.self.inside.table.held c.self.invariant c.current.ensures c.unwrap-at.ensures)

-- the current pair's node, which is none of those to visit
now : (g : _) (c : goal.After-move_to_back g)
    → IsCurrent (visit_of c.self.inside.state) c.self.inside.table.held (pointer_of c.unwrap-at.result)
now g c = IsCurrent-outside c.self.inside.table.held c.self.invariant c.current.ensures c.unwrap-at.ensures c.args.self.now
    (ap (λ m. m.cursor) c.self.view_is) c.requires.outside

moved : (g : _) (c : goal.After-move_to_back g) → IsTouchedAt (pointer_of c.unwrap-at.result)
    Touch c.self.inside.table.held c.move_to_back.new.self.held
moved g c =
    let lies = (now g c).lies in let last = c.move_to_back.ensures in
    record { lies = lies; touched = (last.held _ (IsAt-index_of _ c.self.inside.table.held lies), last.last) }

pub invariant_of-self : goal.invariant_of-self
invariant_of-self g c = IsKept-touched g.met.K.Eq.laws c.self.invariant (now g c) (moved g c) c.move_to_back.ensures.keeps.capacity

pub returns : goal.returns
returns g c =
    let m = c.self.inside in let hs = m.table.held in let laws = g.met.K.Eq.laws in let current = now g c in
    rw (← c.self.view_is) (record {
      pairs = λ key index.
          let here = subst (IsIndex g.K.PartialEq.eq (pairs_of hs) key) (current_at-Some current.is hs) index in
          pairs-moved _ _ (moved g c).touched.0 ∙ sym (to_back_as_is-index laws (distinct_keys hs c.self.invariant) here);
      moves = MovesCurrent-nodes m.table c.move_to_back.new.self (beside m) current.is c.self.invariant
          (slice_get-touched (moved g c)) c.move_to_back.ensures.keeps (to_visit-touched laws c.self.invariant current (moved g c))
          (elsewhere-touched laws c.self.invariant current (moved g c)) (invariant_of-self g c);
    })
