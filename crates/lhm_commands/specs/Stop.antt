-- Why a run stops before all of its output is written.
use Rattle.std.specs.Prelude.{ℕ, List, ◌++◌, ⊤, codes, decimal}
use Rattle.lhm_commands.specs.declared.stop.Stop.{Stop}
use Rattle.lhm_commands.specs.declared.stop.Stop.TheVariants.{NotACommand, OutOfMemory, InputFailed, OutputFailed}
use Rattle.lhm_commands.specs.Commands.{IsFirstInvalid}

-- the exit status
abbrev pub status_of : Stop → ℕ
status_of (NotACommand n) = 2
status_of OutOfMemory = 3
status_of InputFailed = 4
status_of OutputFailed = 4

-- what is told, without the byte that ends its line
abbrev pub stop_text : Stop → List ℕ
stop_text (NotACommand n) = codes "line " ++ decimal n ++ codes ": not a command"
stop_text OutOfMemory = codes "out of memory"
stop_text InputFailed = codes "input failed"
stop_text OutputFailed = codes "output failed"

-- why the commands in some lines give no output: an invalid line, by its number, or a failed
-- allocation
abbrev pub StopsLines : List (List ℕ) → Stop → Type 0
StopsLines lines (NotACommand n) = (line : List ℕ) × IsFirstInvalid lines n line
StopsLines lines OutOfMemory = ⊤
StopsLines lines InputFailed = ⊥
StopsLines lines OutputFailed = ⊥
