-- Which words say which command.
use Rattle.std.specs.Prelude.{ℕ, ◌≡◌, ◌≢◌, ◌+◌, ◌⊎◌, List, [], ◌∷◌, ◌++◌, Bool, true, false, All, codes, filter, length, map}
use Rattle.std.specs.List.{AllZip}
use Rattle.linked_hash_map.specs.declared.replay.Command.{Command}
use Rattle.linked_hash_map.specs.declared.replay.Command.TheVariants.{Insert, Write, Refresh, Remove, PopFront, PopBack, Clear}
use Rattle.linked_hash_map.specs.declared.replay.Command.TheVariants.{Drain, Extend, OrInsert, EntryInsert, EntryRemove}
use Rattle.linked_hash_map.specs.declared.replay.Command.TheVariants.{Reserve, Shrink, SetMode}
use Rattle.linked_hash_map.specs.declared.map.Mode.{Mode}
use Rattle.linked_hash_map.specs.declared.map.Mode.TheVariants.{Touch, Keep}
use Rattle.lhm_commands.specs.declared.parser.Name.{Name}
use Rattle.lhm_commands.specs.declared.parser.Name.TheVariants as name
use Rattle.lhm_commands.specs.Grammar.{words_of, SpellsNumber}

-- the words spell the numbers, one each, in order
abbrev pub SpellNumbers : List (List ℕ) → List ℕ → Type 0
SpellNumbers words ns = AllZip SpellsNumber words ns

-- the first word spells the number n, and the others follow it
abbrev pub StartWithNumber : List (List ℕ) → ℕ → List (List ℕ) → Type 0
StartWithNumber [] n others = ⊥
StartWithNumber (word ∷ words) n others = SpellsNumber word n × (words ≡ others)

-- the name of a command
abbrev pub command_name : Command ℕ ℕ → Name
command_name (Insert k v) = name.Insert
command_name (Write k v) = name.Write
command_name (Refresh k) = name.Refresh
command_name (Remove k) = name.Remove
command_name PopFront = name.PopFront
command_name PopBack = name.PopBack
command_name Clear = name.Clear
command_name Drain = name.Drain
command_name (Extend pairs) = name.Extend
command_name (OrInsert k v) = name.OrInsert
command_name (EntryInsert k v) = name.EntryInsert
command_name (EntryRemove k) = name.EntryRemove
command_name (Reserve n) = name.Reserve
command_name Shrink = name.Shrink
command_name (SetMode mode) = name.SetMode

-- the numbers of pairs, each key before its value
abbrev pub numbers_of : List (ℕ × ℕ) → List ℕ
numbers_of [] = []
numbers_of (pair ∷ pairs) = pair.0 ∷ pair.1 ∷ numbers_of pairs

-- the numbers after it
abbrev pub command_numbers : Command ℕ ℕ → List ℕ
command_numbers (Insert k v) = k ∷ v ∷ []
command_numbers (Write k v) = k ∷ v ∷ []
command_numbers (Refresh k) = k ∷ []
command_numbers (Remove k) = k ∷ []
command_numbers PopFront = []
command_numbers PopBack = []
command_numbers Clear = []
command_numbers Drain = []
command_numbers (Extend pairs) = numbers_of pairs
command_numbers (OrInsert k v) = k ∷ v ∷ []
command_numbers (EntryInsert k v) = k ∷ v ∷ []
command_numbers (EntryRemove k) = k ∷ []
command_numbers (Reserve n) = n ∷ []
command_numbers Shrink = []
command_numbers (SetMode mode) = []

-- the word that is a name
abbrev pub name_text : Name → List ℕ
name_text name.Insert = codes "insert"
name_text name.Write = codes "write"
name_text name.Refresh = codes "refresh"
name_text name.Remove = codes "remove"
name_text name.PopFront = codes "popfront"
name_text name.PopBack = codes "popback"
name_text name.Clear = codes "clear"
name_text name.Drain = codes "drain"
name_text name.Extend = codes "extend"
name_text name.OrInsert = codes "orinsert"
name_text name.EntryInsert = codes "eput"
name_text name.EntryRemove = codes "eremove"
name_text name.Reserve = codes "reserve"
name_text name.Shrink = codes "shrink"
name_text name.SetMode = codes "mode"

-- the word that is a mode
abbrev pub mode_text : Mode → List ℕ
mode_text Touch = codes "touch"
mode_text Keep = codes "keep"

-- the words say what comes after the name of a command: a mode, or else its numbers
abbrev pub SayRest : Command ℕ ℕ → List (List ℕ) → Type 0
SayRest (SetMode mode) words = words ≡ mode_text mode ∷ []
SayRest command words = SpellNumbers words (command_numbers command)

-- the command is said by the words: by its name, and then by what comes after it
abbrev pub IsSaidBy : Command ℕ ℕ → List (List ℕ) → Type 0
IsSaidBy command [] = ⊥
IsSaidBy command (word ∷ words) = (word ≡ name_text (command_name command)) × SayRest command words

-- the words say no command
abbrev pub SayNoCommand : List (List ℕ) → Type 0
SayNoCommand words = (command : Command ℕ ℕ) → ¬ IsSaidBy command words

-- there is a word
abbrev pub has_word : List (List ℕ) → Bool
has_word [] = false
has_word (word ∷ words) = true

-- the lines that have words say the commands, one each, in order
abbrev pub AreCommandsOf : List (List ℕ) → List (Command ℕ ℕ) → Type 0
AreCommandsOf lines commands = AllZip IsSaidBy commands (filter has_word (map words_of lines))

-- a line is blank, or says a command
abbrev pub IsValid : List ℕ → Type 0
IsValid line = (words_of line ≡ []) ⊎ ((command : Command ℕ ℕ) × IsSaidBy command (words_of line))

-- a line has words, and they say no command
abbrev pub IsInvalid : List ℕ → Type 0
IsInvalid line = (words_of line ≢ []) × SayNoCommand (words_of line)

-- line n, counted from 1, is the first invalid one
pub record IsFirstInvalid (lines : List (List ℕ)) (n : ℕ) (line : List ℕ) : Type 0 where
  pub before : List (List ℕ)
  pub after : List (List ℕ)
  pub parts : lines ≡ before ++ line ∷ after
  pub number : n ≡ length before + 1
  pub valid : All IsValid before
  pub invalid : IsInvalid line
