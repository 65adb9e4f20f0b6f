use Rattle.std.proofs.Common.{length}
use Rattle.uses.proofs.nested.Value.+remove.Given as goal

abbrev pub decreases-remove : goal.decreases-remove
decreases-remove l = length l.path.now
