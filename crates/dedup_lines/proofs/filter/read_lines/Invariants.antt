use Rattle.std.proofs.Common.{◌≡◌, None}
use Rattle.dedup_lines.{specs.Recent.recent_lines, specs.Recent.recent_size, proofs.Passes.IsFiltered}
use Rattle.dedup_lines.proofs.filter.read_lines.Given as goal

abbrev pub invariant-loop : goal.invariant-loop
invariant-loop g l =
    (recent_size l.recent ≡ None) × IsFiltered None (g.R.Read.remaining l.initial.input) (g.R.Read.remaining l.input)
    (recent_lines l.recent) None None
