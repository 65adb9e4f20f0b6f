use Rattle.std.proofs.Common.{◌≡◌}
use Rattle.uses.proofs.loops.take_all.Given as goal

abbrev pub invariant-loop-pair : goal.invariant-loop-pair
invariant-loop-pair g l = l.list.items ≡ l.yielded
