use Rattle.std.proofs.Common.{◌≡◌, true, ◌∙◌, None, rules}
use Rattle.dedup_lines.{specs.Recent.recent_lines, proofs.Passes.IsFiltered-push}
use Rattle.dedup_lines.proofs.filter.read_lines.Goals as goal

pub loop-preserved : goal.loop-preserved
loop-preserved g c =
    let is_read : c.in_ok-read_line.field-0 ≡ true = search rules in (
      c.push.ensures.size ∙ c.loop.invariant.0,
      IsFiltered-push None (g.R.Read.remaining c.args.input.now) None
          (g.R.Read.remaining c.loop.input) (g.R.Read.remaining c.read_line.new.input) (recent_lines c.loop.recent)
          (recent_lines c.push.new.self)
          None None c.read_line.new.line.items
          c.loop.invariant.1 (c.in_ok-read_line.ensures.line is_read)
          (rw (c.as_slice.ensures.value, c.loop.invariant.0) at c.in_ok-push.ensures.lines) tt,
    )
