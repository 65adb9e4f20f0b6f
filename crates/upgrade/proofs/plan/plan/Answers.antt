use Rattle.std.proofs.Common.{arith, ap, ◌∙◌, fold, []}
use Rattle.std.proofs.lemmas.List.{take_all}
use Rattle.linked_hash_set.specs.Items.{push_if_absent, without}
use Rattle.linked_hash_set.proofs.Callers.Removals.{fold-without}
use Rattle.upgrade.proofs.plan.plan.Goals as goal

pub returns : goal.returns
returns g c = let tasks = fold (push_if_absent g.T.PartialEq.eq) [] c.args.tasks.now in c.loop-task-2.invariant
    ∙ ap (fold (without g.T.PartialEq.eq) tasks) (take_all c.loop-task-2.task-index c.args.done.now (omega arith))
    ∙ fold-without g.T.PartialEq.eq tasks c.args.done.now
