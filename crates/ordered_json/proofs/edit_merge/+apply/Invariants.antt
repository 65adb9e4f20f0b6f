use Rattle.std.proofs.Common.{◌≡◌, ◌+◌, ◌*◌, List, length, ◌++◌}
use Rattle.json.specs.Tree.{depth, members_depth}
use Rattle.ordered_json.specs.Merge.{merge_each}
use Rattle.ordered_json.specs.Room.{FitsIn}
use Rattle.ordered_json.specs.View.{members_view, view}
use Rattle.ordered_json.proofs.Views.{Entry}
use Rattle.ordered_json.proofs.edit_merge.+apply.Given as goal

abbrev pub decreases-apply : goal.decreases-apply
decreases-apply l = 4 * depth (view l.patch)

abbrev pub decreases-apply_object : goal.decreases-apply_object
decreases-apply_object l = 4 * members_depth (members_view l.changes.value.pairs) + 3

abbrev pub decreases-apply_each : goal.decreases-apply_each
decreases-apply_each l = 4 * members_depth (members_view l.changes.now.pairs) + 2

abbrev pub decreases-apply_at : goal.decreases-apply_at
decreases-apply_at l = 4 * depth (view l.change) + 1

abbrev pub decreases-apply_each-changes : goal.decreases-apply_each-changes
decreases-apply_each-changes l = length l.changes.pairs

abbrev pub invariant-apply_each-changes : goal.invariant-apply_each-changes
invariant-apply_each-changes l =
    (done : List Entry) × (l.initial.changes.pairs ≡ done ++ l.changes.pairs)
    × FitsIn (members_view l.changes.pairs) l.members
    × (merge_each (members_view l.changes.pairs) (members_view l.members.pairs)
    ≡ merge_each (members_view l.initial.changes.pairs) (members_view l.initial.members.pairs))
