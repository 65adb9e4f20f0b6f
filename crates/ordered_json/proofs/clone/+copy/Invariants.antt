use Rattle.std.proofs.Common.{◌≡◌, List, ◌++◌, take, map}
use Rattle.std.specs.Map.{values_of}
use Rattle.ordered_json.specs.View.{view, members_view}
use Rattle.ordered_json.specs.declared.value.Value.{Value}
use Rattle.ordered_json.proofs.Views.{Entry}
use Rattle.ordered_json.proofs.clone.+copy.Given as goal

abbrev pub invariant-copy_items-loop-item : goal.invariant-copy_items-loop-item
invariant-copy_items-loop-item l = map view l.copies.items ≡ map view (take l.item-index l.item-items)

-- the last part is for the measure: a member is less deep than the object
abbrev pub invariant-copy_members-loop-name : goal.invariant-copy_members-loop-name
invariant-copy_members-loop-name l =
    (done : List Entry) × (l.members.pairs ≡ done ++ l.name-iterator) × (members_view l.copies.pairs ≡ members_view done)
    × (front : List Value) × (values_of l.members.pairs ≡ front ++ values_of l.name-iterator)
