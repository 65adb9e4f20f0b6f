use Rattle.std.proofs.Common.{length}
use Rattle.uses.proofs.nested.Value.+get_mut.Given as goal

abbrev pub decreases-get_mut : goal.decreases-get_mut
decreases-get_mut l = length l.path.now
