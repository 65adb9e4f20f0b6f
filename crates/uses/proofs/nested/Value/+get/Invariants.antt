use Rattle.std.proofs.Common.{length}
use Rattle.uses.proofs.nested.Value.+get.Given as goal

abbrev pub decreases-get : goal.decreases-get
decreases-get l = length l.path.now
