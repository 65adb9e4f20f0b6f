-- The edits that commands are, and that texts say.
use Rattle.std.specs.Prelude.{ℕ, ◌==◌, cond, true, false, List, length, slice_index, codes, string_bytes}
use Rattle.std.specs.Prelude.{Option, Some, None, Ok, ok_or, option_and_then, option_map}
use Rattle.std.specs.List.{position_or_len, before_first, after_first}
use Rattle.std.specs.Str.{bytes_eq}
use Rattle.json.specs.Find.{as_str}
use Rattle.json.specs.Json.{Json}
use Rattle.ordered_json.specs.Edits.{Edited, set_at, remove_at, rename_at, move_at}
use Rattle.ordered_json.specs.Merge.{merged}
use Rattle.ordered_json.specs.Pointers.{pointed}
use Rattle.ordered_json.specs.Read.{read}
use Rattle.ordered_json.specs.Sorts.{sort_at}
use Rattle.ordered_json.specs.View.{view}
use Rattle.ordered_json.specs.declared.edit.EditError.TheVariants.{Absent}
use Rattle.json_commands.specs.declared.command.Command.{Command}
use Rattle.json_commands.specs.declared.command.Command.TheVariants.{Set, Remove, Rename, Move, Merge, Sort, Get}

-- a document becomes another one, or the edit is refused
abbrev pub Edit : Type 0
Edit = Json → Edited

-- the value at a pointer alone
abbrev pub get_at : List ℕ → Edit
get_at pointer j = ok_or (pointed pointer j) Absent

-- the document after a merge patch
abbrev pub merge_by : Json → Edit
merge_by patch j = Ok (merged patch j)

-- the edit of a command
abbrev pub edit : Command → Edit
edit (Set pointer value) = set_at (string_bytes pointer) (view value)
edit (Remove pointer) = remove_at (string_bytes pointer)
edit (Rename pointer name) = rename_at (string_bytes pointer) (string_bytes name)
edit (Move pointer behind other) = move_at behind (string_bytes pointer) (string_bytes other)
edit (Merge patch) = merge_by (view patch)
edit (Sort pointer) = sort_at (string_bytes pointer)
edit (Get pointer) = get_at (string_bytes pointer)

-- ---- texts

-- what stands before the first space of a text, and behind it
abbrev pub cut : List ℕ → Option (List ℕ × List ℕ)
cut text =
    cond (position_or_len (λ b. b == 32) text == length text) None
    (Some (before_first (λ b. b == 32) text, after_first (λ b. b == 32) text))

-- a word itself, or the string that it is in JSON if it begins with a quote
abbrev pub said : List ℕ → Option (List ℕ)
said word = cond (slice_index word 0 == 34) (option_and_then as_str (read word)) (Some word)

-- the edit of a move: of a pointer, a side and the name of another member
abbrev pub move_of : List ℕ → List ℕ → List ℕ → Option Edit
move_of pointer side other =
    cond (bytes_eq side (codes "after")) (option_map (move_at true pointer) (said other))
    (cond (bytes_eq side (codes "before")) (option_map (move_at false pointer) (said other)) None)

-- the edit of a name, a pointer and what is behind them
abbrev pub edit_with : List ℕ → List ℕ → List ℕ → Option Edit
edit_with name pointer last =
    cond (bytes_eq name (codes "set")) (option_map (set_at pointer) (read last))
    (cond (bytes_eq name (codes "rename")) (option_map (rename_at pointer) (said last))
    (cond (bytes_eq name (codes "move"))
    (option_and_then (λ p. move_of pointer p.0 p.1) (cut last)) None))

-- the edit of a name and what is behind it
abbrev pub edit_named : List ℕ → List ℕ → Option Edit
edit_named name rest =
    cond (bytes_eq name (codes "get")) (option_map get_at (said rest))
    (cond (bytes_eq name (codes "remove")) (option_map remove_at (said rest))
    (cond (bytes_eq name (codes "sort")) (option_map sort_at (said rest))
    (cond (bytes_eq name (codes "merge")) (option_map merge_by (read rest))
    (option_and_then (λ p. option_and_then (λ pointer. edit_with name pointer p.1) (said p.0))
    (cut rest)))))

-- the edit that a text says
abbrev pub edit_of : List ℕ → Option Edit
edit_of text = option_and_then (λ p. edit_named p.0 p.1) (cut text)
