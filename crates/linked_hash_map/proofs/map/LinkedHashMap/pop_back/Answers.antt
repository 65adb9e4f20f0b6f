use Rattle.linked_hash_map.proofs.Names.{length, refl, rules, sym, ◌-◌, ◌∙◌, IsAt-within, pointer_of, IsAt, pairs_of}
use Rattle.linked_hash_map.proofs.nodes.{CutNodes.held-at, FirstAndLast.IsAt-last, Kept.IsValid-kept, Kept.IsValid-view}
use Rattle.linked_hash_map.proofs.nodes.TakenNode.{IsKept-removed, pairs-removed}
use Rattle.linked_hash_map.proofs.{pairs.Calls.find-none, runs.Effects.remove-last, runs.Pops.Updates-take_but_last}
use Rattle.linked_hash_map.proofs.map.LinkedHashMap.pop_back.Goals as goal

pub remove_at-requires : goal.remove_at-requires
remove_at-requires g c = held-at _ _ (IsAt-last c.self.inside.table.held c.in_ok-back.ensures.last)

-- it was the last
is_last : (g : _) (c : goal.After-remove_at g) → IsAt c.self.inside.table.held (pointer_of c.in_ok-back.back)
    (length (pairs_of c.self.inside.table.held) - 1)
is_last g c = IsAt-last c.self.inside.table.held c.in_ok-back.ensures.last

pub invariant_of-self : goal.invariant_of-self
invariant_of-self g c = IsKept-removed _ _ (c.remove_at.ensures.others _ (is_last g c)) (IsAt-within _ _ (is_last g c))
    c.self.invariant c.remove_at.ensures.keeps.capacity

pub returns : goal.returns
returns g c =
    let ps = pairs_of c.self.inside.table.held in let taken = c.remove_at.ensures in
    let valid = IsValid-view c.self.inside refl c.self.invariant in let pair = taken.pair _ (is_last g c) in
    let pairs = pairs-removed c.self.inside.table.held _ (taken.others _ (is_last g c)) ∙ remove-last ps in
    let updates = Updates-take_but_last g.met.K.Eq.laws ps
    (pairs_of c.remove_at.new.self.held) c.remove_at.result valid.distinct pair pairs in
    rw (← c.self.view_is) (record {
      pair = sym pair;
      pairs = pairs;
      keeps = search rules;
      ends_visit = search rules;
      unchanged = tt;
      valid = valid;
      stays_valid = IsValid-kept _ (invariant_of-self g c) refl refl refl;
      updates = updates;
      gone = find-none g.K.PartialEq.eq _ _ updates.here;
    })
