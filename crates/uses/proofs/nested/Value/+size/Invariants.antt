use Rattle.std.proofs.Common.{◌≡◌, List, ◌++◌, drop}
use Rattle.uses.specs.declared.nested.Value.{Value}
use Rattle.uses.proofs.TreeCounts.{IsSizeSoFar}
use Rattle.uses.proofs.nested.Value.+size.Given as goal

abbrev pub invariant-loop-item : goal.invariant-loop-item
invariant-loop-item l = IsSizeSoFar l.item-items (drop l.item-index l.item-items) l.total

-- the last part is for the measure: a member is less deep than the object
abbrev pub invariant-loop-member : goal.invariant-loop-member
invariant-loop-member l =
    IsSizeSoFar l.initial.member-iterator l.member-iterator l.total
    × (done : List Value) × (l.initial.member-iterator ≡ done ++ l.member-iterator)
