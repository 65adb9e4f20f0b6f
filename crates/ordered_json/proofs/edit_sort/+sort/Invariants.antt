use Rattle.std.proofs.Common.{◌≡◌, ◌+◌, ◌*◌}
use Rattle.json.specs.Tree.{depth, items_depth, members_depth}
use Rattle.ordered_json.specs.View.{items_view, members_view, view}
use Rattle.ordered_json.proofs.Sorting.{IsTurning, sorted_first}
use Rattle.ordered_json.proofs.edit_sort.+sort.Given as goal

abbrev pub decreases-sort : goal.decreases-sort
decreases-sort l = 2 * depth (view l.value.now)

abbrev pub decreases-sort_items : goal.decreases-sort_items
decreases-sort_items l = 2 * items_depth (items_view l.items.now.items) + 1

abbrev pub decreases-sort_members : goal.decreases-sort_members
decreases-sort_members l = 2 * members_depth (members_view l.members.now.pairs) + 1

abbrev pub invariant-sort_items-loop-at : goal.invariant-sort_items-loop-at
invariant-sort_items-loop-at l = items_view l.items.items ≡ sorted_first l.at (items_view l.initial.items.items)

abbrev pub invariant-sort_members-loop-turn : goal.invariant-sort_members-loop-turn
invariant-sort_members-loop-turn l = IsTurning l.initial.members.pairs l.members.pairs l._turn
