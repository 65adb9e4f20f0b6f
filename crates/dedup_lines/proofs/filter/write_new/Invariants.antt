use Rattle.std.proofs.Common.{◌≡◌}
use Rattle.dedup_lines.{specs.Recent.recent_lines, specs.Recent.recent_size, proofs.Passes.IsFiltered}
use Rattle.dedup_lines.proofs.filter.write_new.Given as goal

abbrev pub invariant-loop : goal.invariant-loop
invariant-loop g l =
    (recent_size l.recent ≡ l.fn.size) × IsFiltered l.fn.size (g.R.Read.remaining l.initial.input) (g.R.Read.remaining l.input)
    (recent_lines l.recent) (g.W.Write.contents l.initial.output) (g.W.Write.contents l.output)
