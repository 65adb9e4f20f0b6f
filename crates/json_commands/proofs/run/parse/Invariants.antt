use Rattle.std.proofs.Common.{◌≡◌, ℕ, suc, drop, map, string_bytes}
use Rattle.json_commands.specs.{Commands.edit, Runs.edits_of}
use Rattle.json_commands.proofs.Steps.{edits_behind}
use Rattle.json_commands.proofs.run.parse.Given as goal

abbrev pub invariant-loop-i : goal.invariant-loop-i
invariant-loop-i l =
    edits_of 1 (map string_bytes l.texts)
    ≡ edits_behind (map edit l.commands.items) (suc l.i) (map string_bytes (drop l.i l.texts))
