use Rattle.dedup_lines.proofs.Told.{OnOk-Appends}
use Rattle.dedup_lines.proofs.stop.write_parts.Goals as goal

pub returns : goal.returns
returns g c =
    OnOk-Appends c.write_all-3.result c.args.start.now c.args.middle.now c.args.end.now (g.F.Write.contents c.args.faults.now)
    (g.F.Write.contents c.write_all.new.self) (g.F.Write.contents c.write_all-2.new.self) (g.F.Write.contents c.write_all-3.new.self)
    c.in_ok-write_all.ensures.bytes c.in_ok-write_all-2.ensures.bytes c.write_all-3.ensures.bytes
