use Rattle.std.proofs.Common.{◌≡◌, ◌++◌}
use Rattle.uses.proofs.loops.into_list.Given as goal

abbrev pub invariant-loop-pair : goal.invariant-loop-pair
invariant-loop-pair g l = l.list.items ++ l.pair-iterator ≡ l.fn.map.pairs
