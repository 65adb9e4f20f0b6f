use Rattle.dedup_lines.proofs.Passes.{written-First}
use Rattle.dedup_lines.proofs.filter.write_kept.Goals as goal

pub returns-in-First-clause-written : goal.returns-in-First-clause-written
returns-in-First-clause-written g c =
    rw c.in-First.is (written-First c.write_new.result (g.R.Read.remaining c.args.input.now)
    (g.W.Write.contents c.args.output.now) (g.W.Write.contents c.write_new.new.output) c.write_new.ensures.written)
