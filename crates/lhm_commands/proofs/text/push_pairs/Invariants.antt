use Rattle.std.{proofs.Common.◌≡◌, proofs.Common.◌++◌, proofs.Common.take, proofs.Common.string_bytes, specs.Prelude.flat_map}
use Rattle.lhm_commands.specs.Text.{pair_text}
use Rattle.lhm_commands.proofs.text.push_pairs.Given as goal

abbrev pub invariant-loop-key : goal.invariant-loop-key
invariant-loop-key l = string_bytes l.text ≡ string_bytes l.initial.text ++ flat_map pair_text (take l.key-index l.pairs)
