-- Why a run stops before all of its output is written.
use Rattle.std.specs.Prelude.{ℕ, ◌≡◌, List, [], ◌∷◌, ◌++◌, codes, ⊤, Option, Result, Ok, Err}
use Rattle.std.specs.Io.KnownBytes.{Appends, Keeps}
use Rattle.dedup_lines.specs.declared.stop.Stop.{Stop}
use Rattle.dedup_lines.specs.declared.stop.Stop.TheVariants.{WrongArguments, OutOfMemory, SeedFailed, InputFailed, OutputFailed, PipeClosed}

-- the exit status
abbrev pub status_of : Stop → ℕ
status_of WrongArguments = 2
status_of OutOfMemory = 3
status_of (SeedFailed kind) = 4
status_of (InputFailed kind) = 4
status_of (OutputFailed kind) = 4
status_of PipeClosed = 4

-- known bytes grow by a line that begins with these bytes and ends with a cause
abbrev pub TellsCause : List ℕ → Option (List ℕ) → Option (List ℕ) → Type 0
TellsCause start old new = (cause : List ℕ) × Appends old new (start ++ cause ++ 10 ∷ [])

-- known bytes grow by a line that says why a run stops, with a word of wrong arguments; a closed
-- pipe is not told
abbrev pub Tells : Stop → List ℕ → Option (List ℕ) → Option (List ℕ) → Type 0
Tells WrongArguments word old new = Appends old new (codes "dedup: wrong arguments: " ++ word
    ++ (codes "; usage: dedup [--last | --window N | --help] < FILE" ++ 10 ∷ []))
Tells OutOfMemory word old new = Appends old new (codes "dedup: out of memory" ++ 10 ∷ [])
Tells (SeedFailed kind) word old new = TellsCause (codes "dedup: no random seed: ") old new
Tells (InputFailed kind) word old new = TellsCause (codes "dedup: input failed: ") old new
Tells (OutputFailed kind) word old new = TellsCause (codes "dedup: output failed: ") old new
Tells PipeClosed word old new = Keeps old new

-- why the output of right arguments is not written
abbrev pub StopsOutput : Stop → Type 0
StopsOutput WrongArguments = ⊥
StopsOutput OutOfMemory = ⊤
StopsOutput (SeedFailed kind) = ⊥
StopsOutput (InputFailed kind) = ⊤
StopsOutput (OutputFailed kind) = ⊤
StopsOutput PipeClosed = ⊤

module _ {A : Type 0} where
  -- the exit status of a run that came to its end or stopped
  abbrev pub run_status : Result A Stop → ℕ
  run_status (Ok value) = 0
  run_status (Err stop) = status_of stop

  -- known bytes stay after a run that came to its end, or grow by what tells why it stopped
  abbrev pub TellsRun : Result A Stop → List ℕ → Option (List ℕ) → Option (List ℕ) → Type 0
  TellsRun (Ok value) word old new = Keeps old new
  TellsRun (Err stop) word old new = Tells stop word old new
