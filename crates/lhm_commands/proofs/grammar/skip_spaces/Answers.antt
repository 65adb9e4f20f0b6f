use Rattle.std.proofs.{Common.ℕ, Common.◌<◌, Common.length, Common.arith, lemmas.List.take_rest}
use Rattle.lhm_commands.proofs.Cuts.{separators_skip}
use Rattle.lhm_commands.proofs.grammar.skip_spaces.Goals as goal

pub returns-then-not-is_space-clause-words : goal.returns-then-not-is_space-clause-words
returns-then-not-is_space-clause-words c =
    rw take_rest (separators_skip c.args.line.now c.loop-i.i (omega arith) c.loop-i.invariant)

pub returns-clause-words : goal.returns-clause-words
returns-clause-words c =
    rw take_rest (separators_skip c.args.line.now (length c.args.line.now) (omega arith)
    (λ (k : ℕ) (l : k < length c.args.line.now). c.loop-i.invariant k (omega arith)))
