use Rattle.std.proofs.Common.{[], ◌∷◌}
use Rattle.dedup_lines.specs.Help.{about, about_last, about_window, help_text}
use Rattle.dedup_lines.proofs.{Passes.Appends-cons, Told.OnOk-kept}
use Rattle.dedup_lines.proofs.help.write_help.Goals as goal

pub returns-clause-written : goal.returns-clause-written
returns-clause-written g c =
    OnOk-kept c.flush.result (g.W.Write.contents c.args.output.now) (g.W.Write.contents c.write_line-3.new.output)
    (g.W.Write.contents c.flush.new.output) help_text
    (Appends-cons (g.W.Write.contents c.args.output.now) (g.W.Write.contents c.write_line.new.output)
    (g.W.Write.contents c.write_line-3.new.output) about (about_last ∷ about_window ∷ []) c.in_ok-write_line.ensures.written
    (Appends-cons (g.W.Write.contents c.write_line.new.output) (g.W.Write.contents c.write_line-2.new.output)
    (g.W.Write.contents c.write_line-3.new.output) about_last (about_window ∷ []) c.in_ok-write_line-2.ensures.written
    c.in_ok-write_line-3.ensures.written)) c.flush.ensures.kept
