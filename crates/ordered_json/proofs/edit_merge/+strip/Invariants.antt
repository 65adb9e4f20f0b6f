use Rattle.std.proofs.Common.{◌+◌, ◌*◌}
use Rattle.json.specs.Tree.{depth, members_depth}
use Rattle.ordered_json.specs.View.{members_view, view}
use Rattle.ordered_json.proofs.Merges.{IsStripping}
use Rattle.ordered_json.proofs.edit_merge.+strip.Given as goal

abbrev pub decreases-strip : goal.decreases-strip
decreases-strip l = 2 * depth (view l.value.now)

abbrev pub decreases-strip_each : goal.decreases-strip_each
decreases-strip_each l = 2 * members_depth (members_view l.members.now.pairs) + 1

abbrev pub invariant-strip_each-loop-turn : goal.invariant-strip_each-loop-turn
invariant-strip_each-loop-turn l = IsStripping l.initial.members.pairs l.members.pairs l._turn
