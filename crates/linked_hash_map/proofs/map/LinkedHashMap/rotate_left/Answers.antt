use Rattle.linked_hash_map.proofs.{Names.ap, Names.arith, Names.length, Names.refl, Names.◌∙◌, Names.find, Callers.Moves.find-rotated}
use Rattle.linked_hash_map.proofs.{nodes.HeldPairs.length-pairs_of, nodes.Kept.IsValid-kept, nodes.Kept.IsValid-view}
use Rattle.linked_hash_map.proofs.{nodes.Rotated.IsKept-rotated, nodes.Rotated.length-rotated, nodes.Rotated.pairs-rotated}
use Rattle.linked_hash_map.proofs.map.LinkedHashMap.rotate_left.Goals as goal

pub rotate_left-requires : goal.rotate_left-requires
rotate_left-requires g c =
    let long = length-pairs_of c.self.inside.table.held in let seen = ap (λ m. length m.pairs) c.self.view_is in
    omega (arith, c.requires, long, seen)

pub invariant_of-self : goal.invariant_of-self
invariant_of-self g c = IsKept-rotated c.args.count c.self.inside.table.held c.rotate_left.new.self.held
    c.rotate_left.ensures.rotated g.met.K.Eq.laws c.self.invariant c.rotate_left.ensures.keeps.capacity

pub returns-clause-pairs : goal.returns-clause-pairs
returns-clause-pairs g c = rw (← c.self.view_is) (pairs-rotated c.args.count c.self.inside.table.held
    c.rotate_left.new.self.held c.rotate_left.ensures.rotated)

pub returns-clause-stays_valid : goal.returns-clause-stays_valid
returns-clause-stays_valid g c = IsValid-kept _ (invariant_of-self g c) refl refl refl

pub returns-clause-len : goal.returns-clause-len
returns-clause-len g c = rw (← c.self.view_is) (length-rotated c.args.count c.self.inside.table.held
    c.rotate_left.new.self.held c.rotate_left.ensures.rotated)

pub returns-clause-finds : goal.returns-clause-finds
returns-clause-finds g c q =
    ap (λ ps. find g.K.PartialEq.eq ps q) (returns-clause-pairs g c)
    ∙ find-rotated g.met.K.Eq.laws q c.args.count c.args.self.now.pairs
    (IsValid-view c.self.inside c.self.view_is c.self.invariant).distinct
