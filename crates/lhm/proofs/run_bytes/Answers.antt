use Rattle.lhm_commands.{specs.Grammar.lines_of, proofs.Lines.AreCommandsOf-valid}
use Rattle.lhm.proofs.run_bytes.Goals as goal

pub returns-in-Ok-write_output-clause-valid : goal.returns-in-Ok-write_output-clause-valid
returns-in-Ok-write_output-clause-valid g c =
    λ _. AreCommandsOf-valid (lines_of c.args.bytes.now) c.in-Ok.ensures.text.commands c.in-Ok.ensures.text.said
