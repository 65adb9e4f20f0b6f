use Rattle.std.proofs.Common.{ap, arith}
use Rattle.json.specs.Tree.{depth}
use Rattle.ordered_json.specs.View.{view}
use Rattle.ordered_json.proofs.MergeDepths.{depth-merged}
use Rattle.ordered_json.proofs.value.Value.merge.Goals as goal

pub returns-in-Ok-clause-depth : goal.returns-in-Ok-clause-depth
returns-in-Ok-clause-depth c = omega (
  arith,
  ap depth c.apply.ensures,
  ap depth c.in-Ok.ensures.view,
  depth-merged (view c.args.patch) (view c.make_room.new.target),
)
