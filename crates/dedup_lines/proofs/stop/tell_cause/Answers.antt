use Rattle.dedup_lines.proofs.Told.{OnOk-TellsCause}
use Rattle.dedup_lines.proofs.stop.tell_cause.Goals as goal

pub returns : goal.returns
returns g c =
    OnOk-TellsCause c.write_parts.result c.args.start.now _ (g.F.Write.contents c.args.faults.now)
    (g.F.Write.contents c.write_parts.new.faults) c.write_parts.ensures
