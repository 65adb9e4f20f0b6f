use Rattle.std.proofs.Common.{◌≡◌, ◌+◌}
use Rattle.ordered_json.specs.Room.{new_count}
use Rattle.ordered_json.specs.View.{members_view}
use Rattle.ordered_json.proofs.edit_merge.count_new.Given as goal

abbrev pub invariant-loop-name : goal.invariant-loop-name
invariant-loop-name l =
    l.count + new_count (members_view l.name-iterator) (members_view l.members.pairs)
    ≡ new_count (members_view l.changes.pairs) (members_view l.members.pairs)
