use Rattle.std.proofs.Common.{length}
use Rattle.lhm_ring.specs.Iter.{rest_of}
use Rattle.tests.proofs.tests.rings.write_hashes.Given as goal

abbrev pub decreases-each : goal.decreases-each
decreases-each l = length (rest_of l.lent)
