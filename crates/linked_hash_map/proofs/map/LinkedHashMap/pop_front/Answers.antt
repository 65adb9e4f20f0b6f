use Rattle.linked_hash_map.proofs.Names.{refl, rules, sym, ◌∙◌, IsAt-first_at, IsAt-within, pointer_of, IsAt, pairs_of}
use Rattle.linked_hash_map.proofs.nodes.{CutNodes.held-at, Kept.IsValid-kept, Kept.IsValid-view}
use Rattle.linked_hash_map.proofs.nodes.TakenNode.{IsKept-removed, pairs-removed}
use Rattle.linked_hash_map.proofs.{pairs.Calls.find-none, runs.Effects.remove-first, runs.Pops.Updates-drop_first}
use Rattle.linked_hash_map.proofs.map.LinkedHashMap.pop_front.Goals as goal

pub remove_at-requires : goal.remove_at-requires
remove_at-requires g c = held-at _ _ (IsAt-first_at c.self.inside.table.held c.in_ok-front.ensures)

-- it was the first
is_first : (g : _) (c : goal.After-remove_at g) → IsAt c.self.inside.table.held (pointer_of c.in_ok-front.front) 0
is_first g c = IsAt-first_at c.self.inside.table.held c.in_ok-front.ensures

pub invariant_of-self : goal.invariant_of-self
invariant_of-self g c = IsKept-removed _ _ (c.remove_at.ensures.others 0 (is_first g c)) (IsAt-within _ 0 (is_first g c))
    c.self.invariant c.remove_at.ensures.keeps.capacity

pub returns : goal.returns
returns g c =
    let ps = pairs_of c.self.inside.table.held in let taken = c.remove_at.ensures in
    let valid = IsValid-view c.self.inside refl c.self.invariant in let pair = taken.pair 0 (is_first g c) in
    let pairs = pairs-removed c.self.inside.table.held 0 (taken.others 0 (is_first g c)) ∙ remove-first ps in
    let updates = Updates-drop_first g.met.K.Eq.laws ps (pairs_of c.remove_at.new.self.held) c.remove_at.result valid.distinct pair pairs in
    rw (← c.self.view_is) (record {
      pair = sym pair;
      pairs = pairs;
      keeps = search rules;
      ends_visit = search rules;
      unchanged = tt;
      valid = valid;
      stays_valid = IsValid-kept _ (invariant_of-self g c) refl refl refl;
      updates = updates;
      gone = find-none g.K.PartialEq.eq _ _ updates.here;
    })
