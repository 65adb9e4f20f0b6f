use Rattle.std.{proofs.Common.◌≡◌, proofs.Common.◌++◌, proofs.Common.string_bytes, specs.Prelude.flat_map}
use Rattle.lhm_commands.specs.Text.{pair_text}
use Rattle.lhm_commands.proofs.text.push_list.Given as goal

-- what is written, and then what is left, is the whole
abbrev pub invariant-loop-key : goal.invariant-loop-key
invariant-loop-key l =
    string_bytes l.text ++ flat_map pair_text l.key-iterator ≡ string_bytes l.initial.text ++ flat_map pair_text l.fn.pairs
