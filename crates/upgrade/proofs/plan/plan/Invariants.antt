use Rattle.std.proofs.Common.{◌≡◌, [], fold, take}
use Rattle.linked_hash_set.specs.Items.{push_if_absent, without}
use Rattle.upgrade.proofs.plan.plan.Given as goal

abbrev pub invariant-loop-task : goal.invariant-loop-task
invariant-loop-task g l = l.plan.items ≡ fold (push_if_absent g.T.PartialEq.eq) [] (take l.task-index l.tasks)

abbrev pub invariant-loop-task-2 : goal.invariant-loop-task-2
invariant-loop-task-2 g l = l.plan.items ≡ fold (without g.T.PartialEq.eq)
    (fold (push_if_absent g.T.PartialEq.eq) [] l.tasks) (take l.task-index l.done)
