use Rattle.linked_hash_map.proofs.Names.{ap, refl, ◌∙◌, find}
use Rattle.linked_hash_map.proofs.{Callers.Permuted.find-reverse, nodes.Kept.IsValid-kept, nodes.Kept.IsValid-view}
use Rattle.linked_hash_map.proofs.nodes.Reordered.{IsKept-reordered, IsPermutation-reversed, length-reordered, pairs-reversed}
use Rattle.linked_hash_map.proofs.map.LinkedHashMap.reverse.Goals as goal

pub invariant_of-self : goal.invariant_of-self
invariant_of-self g c = IsKept-reordered c.self.inside.table.held c.reverse.new.self.held
    (IsPermutation-reversed c.self.inside.table.held c.reverse.new.self.held c.reverse.ensures.reversed)
    g.met.K.Eq.laws c.self.invariant c.reverse.ensures.keeps.capacity

pub returns-clause-pairs : goal.returns-clause-pairs
returns-clause-pairs g c = rw (← c.self.view_is)
    (pairs-reversed c.self.inside.table.held c.reverse.new.self.held c.reverse.ensures.reversed)

pub returns-clause-stays_valid : goal.returns-clause-stays_valid
returns-clause-stays_valid g c = IsValid-kept _ (invariant_of-self g c) refl refl refl

pub returns-clause-len : goal.returns-clause-len
returns-clause-len g c = rw (← c.self.view_is) (length-reordered c.self.inside.table.held c.reverse.new.self.held
    (IsPermutation-reversed c.self.inside.table.held c.reverse.new.self.held c.reverse.ensures.reversed))

pub returns-clause-finds : goal.returns-clause-finds
returns-clause-finds g c q =
    ap (λ ps. find g.K.PartialEq.eq ps q) (returns-clause-pairs g c)
    ∙ find-reverse g.met.K.Eq.laws c.args.self.now.pairs q
    (IsValid-view c.self.inside c.self.view_is c.self.invariant).distinct
