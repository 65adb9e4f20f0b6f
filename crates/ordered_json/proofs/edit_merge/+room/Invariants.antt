use Rattle.std.proofs.Common.{◌≡◌, ◌+◌, ◌*◌, ◌≤◌, List, length, ◌++◌}
use Rattle.json.specs.Tree.{depth, members_depth}
use Rattle.ordered_json.specs.Room.{FitsEach, new_count}
use Rattle.ordered_json.specs.View.{members_view, view}
use Rattle.ordered_json.proofs.Views.{Entry}
use Rattle.ordered_json.proofs.edit_merge.+room.Given as goal

abbrev pub decreases-make_room : goal.decreases-make_room
decreases-make_room l = 3 * depth (view l.patch.now)

abbrev pub decreases-make_room_in : goal.decreases-make_room_in
decreases-make_room_in l = 3 * members_depth (members_view l.changes.now.pairs) + 2

abbrev pub decreases-make_room_at : goal.decreases-make_room_at
decreases-make_room_at l = 3 * depth (view l.change.now) + 1

abbrev pub invariant-make_room_in-loop-name : goal.invariant-make_room_in-loop-name
invariant-make_room_in-loop-name l =
    (done : List Entry) × (l.changes.pairs ≡ done ++ l.name-iterator)
    × (members_view l.members.pairs ≡ members_view l.initial.members.pairs)
    × (length l.members.pairs + new_count (members_view l.changes.pairs) (members_view l.members.pairs) ≤ l.members.capacity)
    × FitsEach (members_view done) l.members.pairs
