use Rattle.std.proofs.Common.{◌≡◌, List, ◌++◌, drop, nat_le}
use Rattle.json.specs.Tree.{items_depth}
use Rattle.ordered_json.specs.View.{items_view}
use Rattle.ordered_json.specs.declared.value.Value.{Value}
use Rattle.ordered_json.proofs.depth.+nests.Given as goal

abbrev pub invariant-items_nest_within-loop-item : goal.invariant-items_nest_within-loop-item
invariant-items_nest_within-loop-item l =
    nat_le (items_depth (items_view l.item-items)) l.levels
    ≡ nat_le (items_depth (items_view (drop l.item-index l.item-items))) l.levels

-- the last part is for the measure: a member is less deep than the object
abbrev pub invariant-members_nest_within-loop-member : goal.invariant-members_nest_within-loop-member
invariant-members_nest_within-loop-member l =
    (nat_le (items_depth (items_view l.initial.member-iterator)) l.levels
    ≡ nat_le (items_depth (items_view l.member-iterator)) l.levels)
    × (done : List Value) × (l.initial.member-iterator ≡ done ++ l.member-iterator)
