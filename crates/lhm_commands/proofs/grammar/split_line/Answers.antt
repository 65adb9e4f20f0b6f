use Rattle.std.proofs.Common.{ℕ, ◌<◌, ◌≡◌, ◌==◌, true, get_or, length, arith, rules, add-one}
use Rattle.std.proofs.{lemmas.List.take_rest, Math.Seq.drop-length}
use Rattle.lhm_commands.proofs.Cuts.{line_cut, line_whole}
use Rattle.lhm_commands.proofs.grammar.split_line.Goals as goal

pub returns-then-bytes-i-eq10-clause-lines : goal.returns-then-bytes-i-eq10-clause-lines
returns-then-bytes-i-eq10-clause-lines c =
    let here : (get_or c.args.bytes.now c.loop-i.i 0 == 10) ≡ true = search rules in
    rw (take_rest, add-one) (line_cut c.args.bytes.now c.loop-i.i (omega arith) c.loop-i.invariant here)

pub returns-clause-lines : goal.returns-clause-lines
returns-clause-lines c =
    rw (take_rest, drop-length) (line_whole c.args.bytes.now (omega arith)
    (λ (k : ℕ) (l : k < length c.args.bytes.now). c.loop-i.invariant k (omega arith)))
