use Rattle.std.proofs.Common.{◌≡◌, true, false, ◌∙◌, rules}
use Rattle.dedup_lines.specs.Recent.{recent_lines}
use Rattle.dedup_lines.proofs.Passes.{IsFiltered-start, IsFiltered-push, IsFiltered-written}
use Rattle.dedup_lines.proofs.filter.write_new.Goals as goal

pub loop-init : goal.loop-init
loop-init g c = (
  c.new-recent.ensures.size,
  IsFiltered-start c.args.size (g.R.Read.remaining c.args.input.now)
      (g.W.Write.contents c.args.output.now) (recent_lines c.new-recent.result) c.new-recent.ensures.lines,
)

pub returns-then-not-branch-clause-written : goal.returns-then-not-branch-clause-written
returns-then-not-branch-clause-written g c =
    let end : c.in_ok-read_line.field-0 ≡ false = search rules in
    IsFiltered-written c.args.size (g.R.Read.remaining c.args.input.now) (g.W.Write.contents c.args.output.now)
    (g.R.Read.remaining c.loop.input) (recent_lines c.loop.recent) (g.W.Write.contents c.loop.output) c.loop.invariant.1
    (c.in_ok-read_line.ensures.end end)

pub loop-preserved : goal.loop-preserved
loop-preserved g c =
    let is_read : c.in_ok-read_line.field-0 ≡ true = search rules in (
      c.filter_line.ensures.size ∙ c.loop.invariant.0,
      IsFiltered-push c.args.size (g.R.Read.remaining c.args.input.now) (g.W.Write.contents c.args.output.now)
          (g.R.Read.remaining c.loop.input) (g.R.Read.remaining c.read_line.new.input) (recent_lines c.loop.recent)
          (recent_lines c.filter_line.new.recent)
          (g.W.Write.contents c.loop.output) (g.W.Write.contents c.filter_line.new.output) c.read_line.new.line.items
          c.loop.invariant.1 (c.in_ok-read_line.ensures.line is_read)
          (rw (c.as_slice.ensures.value, c.loop.invariant.0) at c.in_ok-filter_line.ensures.lines)
          (rw c.as_slice.ensures.value at c.in_ok-filter_line.ensures.written),
    )
