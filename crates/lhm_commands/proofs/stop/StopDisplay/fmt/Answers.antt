use Rattle.std.proofs.Common.{append_assoc}
use Rattle.lhm_commands.proofs.stop.StopDisplay.fmt.Goals as goal

pub returns-in-NotACommand-clause-writes : goal.returns-in-NotACommand-clause-writes
returns-in-NotACommand-clause-writes g c = rw (c.in-NotACommand.is, append_assoc) c.write.ensures.writes
