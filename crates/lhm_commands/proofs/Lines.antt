-- Lines and the commands that they say.
use Rattle.std.proofs.Common.{ℕ, ◌≡◌, ◌+◌, List, [], ◌∷◌, refl, ap, inl, inr, map, arith}
use Rattle.std.proofs.lemmas.List.Elements.{All-nil, All-cons}
use Rattle.std.specs.{Prelude.All, Prelude.filter, List.AllZip}
use Rattle.linked_hash_map.specs.declared.replay.Command.{Command}
use Rattle.lhm_commands.specs.Grammar.{words_of}
use Rattle.lhm_commands.specs.Commands.{IsSaidBy, has_word, AreCommandsOf, IsValid, IsInvalid, IsFirstInvalid}

-- words that say a command are some
filter-said : (command : Command ℕ ℕ) (commands : List (Command ℕ ℕ)) (words : List (List ℕ)) (lines : List (List (List ℕ)))
    → IsSaidBy command words → AllZip IsSaidBy commands (filter has_word lines)
    → AllZip IsSaidBy (command ∷ commands) (filter has_word (words ∷ lines))
filter-said command commands [] lines says said = absurd says
filter-said command commands (word ∷ words) lines says said = (says, said)

module _ (line : List ℕ) (lines : List (List ℕ)) where
  -- a blank line
  pub AreCommandsOf-blank : (commands : List (Command ℕ ℕ)) → words_of line ≡ [] → AreCommandsOf lines commands
      → AreCommandsOf (line ∷ lines) commands
  AreCommandsOf-blank commands blank said = rw blank said

  -- a line that says a command
  pub AreCommandsOf-said : (command : Command ℕ ℕ) (commands : List (Command ℕ ℕ)) → IsSaidBy command (words_of line)
      → AreCommandsOf lines commands → AreCommandsOf (line ∷ lines) (command ∷ commands)
  AreCommandsOf-said command commands says said = filter-said command commands (words_of line) (map words_of lines) says said

  -- an invalid line
  pub IsFirstInvalid-one : IsInvalid line → IsFirstInvalid (line ∷ lines) 1 line
  IsFirstInvalid-one invalid = record {
    before = [];
    after = lines;
    parts = refl;
    number = refl;
    valid = All-nil IsValid;
    invalid = invalid;
  }

  -- a valid line
  pub IsFirstInvalid-add : (n : ℕ) (found : List ℕ) → IsValid line → IsFirstInvalid lines n found
      → IsFirstInvalid (line ∷ lines) (1 + n) found
  IsFirstInvalid-add n found valid first = record {
    before = line ∷ first.before;
    after = first.after;
    parts = ap (λ (ls : List (List ℕ)). line ∷ ls) first.parts;
    number = let e = first.number in omega arith;
    valid = All-cons IsValid line first.before valid first.valid;
    invalid = first.invalid;
  }

-- a line whose words, if any, say a command
IsValid-said : (line : List ℕ) (words : List (List ℕ)) (lines : List (List (List ℕ))) (commands : List (Command ℕ ℕ))
    → words_of line ≡ words → AllZip IsSaidBy commands (filter has_word (words ∷ lines)) → IsValid line
IsValid-said line [] lines commands same said = inl same
IsValid-said line (word ∷ words) lines [] same said = absurd said
IsValid-said line (word ∷ words) lines (command ∷ commands) same said = inr (command, rw same said.0)

-- the commands that the lines after the first say
rest-said : (words : List (List ℕ)) (lines : List (List (List ℕ))) (commands : List (Command ℕ ℕ))
    → AllZip IsSaidBy commands (filter has_word (words ∷ lines))
    → (rest : List (Command ℕ ℕ)) × AllZip IsSaidBy rest (filter has_word lines)
rest-said [] lines commands said = (commands, said)
rest-said (word ∷ words) lines [] said = absurd said
rest-said (word ∷ words) lines (command ∷ commands) said = (commands, said.1)

-- lines that say commands are valid
pub AreCommandsOf-valid : (lines : List (List ℕ)) (commands : List (Command ℕ ℕ)) → AreCommandsOf lines commands → All IsValid lines
AreCommandsOf-valid [] commands said = All-nil IsValid
AreCommandsOf-valid (line ∷ lines) commands said =
    let rest = rest-said (words_of line) (map words_of lines) commands said in
    let first = IsValid-said line (words_of line) (map words_of lines) commands refl said in
    All-cons IsValid line lines first (AreCommandsOf-valid lines rest.0 rest.1)
