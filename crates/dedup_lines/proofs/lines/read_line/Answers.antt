use Rattle.std.proofs.Common.{◌<◌, length, arith}
use Rattle.dedup_lines.proofs.First.{TakesLines-first}
use Rattle.dedup_lines.proofs.lines.read_line.Goals as goal

pub returns-in-Ok-clause-line : goal.returns-in-Ok-clause-line
returns-in-Ok-clause-line g c =
    let some : 0 < length c.read_until.new.buf.items =
    omega (arith, c.in-Ok.ensures.ok, c.in-Ok.field-0-test.1, c.read_until.new.buf.ok.0) in
    λ _. rw c.strip_line_feed.ensures (TakesLines-first _ _ c.read_until.new.buf.items some
    (rw c.clear.ensures.items at c.in-Ok.ensures.bytes) c.in-Ok.ensures.rest)
