-- What a run of the program writes.
use Rattle.std.specs.Prelude.{◌≡◌, ℕ, List, [], ◌++◌, flat_map, nat_eq}
use Rattle.linked_hash_map.specs.declared.map.Mode.TheVariants.{Touch}
use Rattle.linked_hash_map.specs.Log.{pairs}
use Rattle.linked_hash_map.specs.Run.{IsRun, first_log, last_log}
use Rattle.linked_hash_map.specs.declared.replay.Command.{Command}
use Rattle.linked_hash_map.specs.declared.replay.Reply.{Reply}
use Rattle.lhm_commands.specs.Grammar.{lines_of}
use Rattle.lhm_commands.specs.Commands.{AreCommandsOf}
use Rattle.lhm_commands.specs.Text.{reply_text, list_text}

-- the lines say commands, those have replies on a new map of capacity 0 and mode Touch, and the
-- output has a line for each reply and then the pairs that the log at the end defines
pub record IsRunOf (bytes output : List ℕ) : Type 0 where
  pub commands : List (Command ℕ ℕ)
  pub replies : List (Reply ℕ ℕ)
  pub said : AreCommandsOf (lines_of bytes) commands
  pub run : IsRun nat_eq 0 (first_log Touch []) commands replies
  pub text : output ≡ flat_map reply_text replies
      ++ list_text (pairs nat_eq (last_log nat_eq (first_log Touch []) commands replies))
