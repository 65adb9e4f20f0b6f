use Rattle.std.proofs.Common.{length}
use Rattle.uses.proofs.nested.Value.+rename.Given as goal

abbrev pub decreases-rename : goal.decreases-rename
decreases-rename l = length l.path.now
