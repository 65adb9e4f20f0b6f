use Rattle.std.proofs.Common.{ℕ, List, ◌+◌, ◌≤◌, ◌++◌, length}
use Rattle.linked_hash_map.specs.declared.replay.Command.{Command}
use Rattle.lhm_commands.specs.{Grammar.lines_of, Commands.AreCommandsOf, Commands.IsFirstInvalid}
use Rattle.lhm_commands.proofs.parser.commands.Given as goal

-- whatever the rest says, the whole says these commands and then that; and the lines so far are
-- valid
pub record IsParsedTo (bytes rest : List ℕ) (line_number : ℕ) (commands : List (Command ℕ ℕ)) : Type 0 where
  pub said : (cs : List (Command ℕ ℕ)) → AreCommandsOf (lines_of rest) cs → AreCommandsOf (lines_of bytes) (commands ++ cs)
  pub first_invalid : (n : ℕ) (line : List ℕ) → IsFirstInvalid (lines_of rest) n line
      → IsFirstInvalid (lines_of bytes) (line_number + n) line
  pub counted : line_number + length rest ≤ length bytes

abbrev pub invariant-loop-rest : goal.invariant-loop-rest
invariant-loop-rest l = IsParsedTo l.bytes l.rest l.line_number l.commands.items

abbrev pub decreases-loop-rest : goal.decreases-loop-rest
decreases-loop-rest l = length l.rest
