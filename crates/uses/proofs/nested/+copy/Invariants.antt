use Rattle.std.proofs.Common.{◌≡◌, List, ◌++◌, take, map}
use Rattle.std.specs.Map.{values_of}
use Rattle.uses.specs.Documents.{view, members_view}
use Rattle.uses.specs.declared.nested.Value.{Value}
use Rattle.uses.proofs.TreeViews.{Entry}
use Rattle.uses.proofs.nested.+copy.Given as goal

abbrev pub invariant-loop-item : goal.invariant-loop-item
invariant-loop-item l = map view l.copies.items ≡ map view (take l.item-index l.item-items)

-- the last part is for the measure: a member is less deep than the object
abbrev pub invariant-loop-name : goal.invariant-loop-name
invariant-loop-name l =
    (done : List Entry) × (l.members.pairs ≡ done ++ l.name-iterator) × (members_view l.copies.pairs ≡ members_view done)
    × (front : List Value) × (values_of l.members.pairs ≡ front ++ values_of l.name-iterator)
