use Rattle.std.proofs.Common.{length}
use Rattle.uses.proofs.nested.Value.+set.Given as goal

abbrev pub decreases-set : goal.decreases-set
decreases-set l = length l.path.now
