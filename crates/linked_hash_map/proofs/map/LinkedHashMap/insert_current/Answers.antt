use Rattle.linked_hash_map.proofs.Names.{Some, ap, option_map, slice_get, subst, sym, ◌∙◌, pointer_of, change_at, revalued, IsIndex, beside}
use Rattle.linked_hash_map.proofs.nodes.Current.{IsAt-current, IsCurrent-outside, MovesCurrent-nodes, current_at-Some, current_of-Some}
use Rattle.linked_hash_map.proofs.nodes.{Current.index_of-current, CutNodes.held-at, Kept.distinct_keys, Outside.IsCurrent}
use Rattle.linked_hash_map.proofs.nodes.PutPair.{IsKept-put_current, IsTouchedAt, elsewhere-put, pair-touched, pairs-put, to_visit-put}
use Rattle.linked_hash_map.proofs.{Names.pairs_of, Names.visit_of, Names.put, nodes.PutPair.touched_at, nodes.PutPair.value-touched}
use Rattle.linked_hash_map.proofs.map.LinkedHashMap.insert_current.Goals as goal

pub touch-requires : goal.touch-requires
touch-requires g c = held-at _ _ (IsAt-current c.self.inside.table.held c.self.invariant c.current.ensures c.unwrap-at.ensures)

pub value_mut-requires : goal.value_mut-requires
value_mut-requires g c =
    let is = current_of-Some c.current.ensures c.unwrap-at.ensures in
    let moved : IsTouchedAt (pointer_of c.unwrap-at.result) c.self.inside.state.mode
    c.self.inside.table.held c.touch.new.table.held =
    record { lies = index_of-current c.self.inside.table.held c.self.invariant is; touched = c.touch.ensures.touched } in
    held-at _ _ (touched_at moved)

-- the current pair's node, which is moved by the map's mode, and is none of those to visit
now : (g : _) (c : goal.After-self-1 g)
    → IsCurrent (visit_of c.self.inside.state) c.self.inside.table.held (pointer_of c.unwrap-at.result)
now g c = IsCurrent-outside c.self.inside.table.held c.self.invariant c.current.ensures c.unwrap-at.ensures c.args.self.now
    (ap (λ m. m.cursor) c.self.view_is) c.requires.outside

moved : (g : _) (c : goal.After-self-1 g) → IsTouchedAt (pointer_of c.unwrap-at.result)
    c.self.inside.state.mode c.self.inside.table.held c.touch.new.table.held
moved g c = record { lies = (now g c).lies; touched = c.touch.ensures.touched }

pub invariant_of-self : goal.invariant_of-self
invariant_of-self g c = IsKept-put_current g.met.K.Eq.laws c.self.invariant (now g c) (moved g c)
    c.touch.ensures.keeps.capacity c.replace.new.dest

pub returns-clause-pairs : goal.returns-clause-pairs
returns-clause-pairs g c =
    let hs = c.self.inside.table.held in
    rw (← c.self.view_is) (λ key index. pairs-put g.met.K.Eq.laws
    (subst (IsIndex g.K.PartialEq.eq (pairs_of hs) key) (current_at-Some (now g c).is hs) index)
    (distinct_keys c.self.inside.table.held c.self.invariant) (moved g c) c.value_mut.ensures.alone c.replace.new.dest
    ∙ ap (put g.K.PartialEq.eq c.self.inside.state.mode (pairs_of hs) key) c.replace.ensures.after)

pub returns-clause-old : goal.returns-clause-old
returns-clause-old g c =
    let hs = c.self.inside.table.held in
    rw (← c.self.view_is) (
    ap (λ k. option_map (λ pair. pair.1) (slice_get (pairs_of hs) k)) (current_at-Some (now g c).is hs)
    ∙ value-touched (moved g c) c.value_mut.ensures.value ∙ ap Some (sym c.replace.ensures.value)
    )

pub returns-clause-moves : goal.returns-clause-moves
returns-clause-moves g c =
    let m = c.self.inside in let laws = g.met.K.Eq.laws in let keeps = c.touch.ensures.keeps in let w = c.replace.new.dest in
    let held = change_at (pointer_of c.unwrap-at.result) (revalued w) c.touch.new.table.held in
    rw (← c.self.view_is) (MovesCurrent-nodes m.table (record c.touch.new.table { held = held }) (beside m) (now g c).is
    c.self.invariant
    (λ pair there. pair-touched (moved g c) c.value_mut.ensures.alone w pair there
    ∙ ap (λ v. Some (pair.0, v)) c.replace.ensures.after)
    (record { capacity = keeps.capacity; rechained = keeps.rechained; made = keeps.made })
    (to_visit-put laws c.self.invariant (now g c) (moved g c) w) (elsewhere-put laws c.self.invariant (now g c) (moved g c) w)
    (IsKept-put_current laws c.self.invariant (now g c) (moved g c) keeps.capacity w))
