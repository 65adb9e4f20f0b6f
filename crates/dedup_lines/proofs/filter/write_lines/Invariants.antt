use Rattle.std.{proofs.Common.Option, proofs.Common.List, proofs.Common.ℕ, specs.Io.KnownBytes.Appends}
use Rattle.dedup_lines.specs.{Lines.text_of, Push.bytes_of}
use Rattle.dedup_lines.proofs.filter.write_lines.Given as goal

-- what is written, and then the lines that are left, is the whole
abbrev pub invariant-loop-line : goal.invariant-loop-line
invariant-loop-line g l =
    (next : Option (List ℕ)) → Appends (g.W.Write.contents l.output) next (text_of (bytes_of l.line-iterator))
    → Appends (g.W.Write.contents l.initial.output) next (text_of (bytes_of l.fn.lines))
