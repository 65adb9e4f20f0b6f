use Rattle.std.proofs.Common.{ℕ, ◌≡◌, ◌<◌, false, get_or}
use Rattle.lhm_commands.specs.Grammar.{is_separator}
use Rattle.lhm_commands.proofs.grammar.split_word.Given as goal

abbrev pub invariant-loop-i : goal.invariant-loop-i
invariant-loop-i l = (k : ℕ) → k < l.i → is_separator (get_or l.text k 0) ≡ false
