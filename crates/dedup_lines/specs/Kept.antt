-- Which lines are kept.
use Rattle.std.specs.Prelude.{ℕ, ◌-◌, Bool, List, [], ◌∷◌, ◌++◌, length, drop, Option, None, Some, if◌then◌else◌}
use Rattle.std.specs.List.{list_any}
use Rattle.std.specs.Str.{bytes_eq}
use Rattle.dedup_lines.specs.declared.keep.Keep.{Keep}
use Rattle.dedup_lines.specs.declared.keep.Keep.TheVariants.{First, Last, Window}

-- a line is among the lines
abbrev pub has_line : List (List ℕ) → List ℕ → Bool
has_line lines line = list_any (bytes_eq line) lines

-- the lines that have no equal line after them
abbrev pub last_appearances : List (List ℕ) → List (List ℕ)
last_appearances [] = []
last_appearances (line ∷ lines) =
    if has_line lines line then last_appearances lines else line ∷ last_appearances lines

-- the last n of some lines, or all if there are fewer
abbrev pub last_lines : ℕ → List (List ℕ) → List (List ℕ)
last_lines n lines = drop (length lines - n) lines

-- the distinct lines, in the order of their last appearances: all of them, or the last n
abbrev pub distinct_lines : Option ℕ → List (List ℕ) → List (List ℕ)
distinct_lines None lines = last_appearances lines
distinct_lines (Some n) lines = last_lines n (last_appearances lines)

-- a line, unless it is among these
abbrev pub unless_among : List (List ℕ) → List ℕ → List (List ℕ)
unless_among lines line = if has_line lines line then [] else line ∷ []

-- of the lines that come after others, those that are not among what `seen` makes of all lines
-- before them
abbrev pub new_lines : (List (List ℕ) → List (List ℕ)) → List (List ℕ) → List (List ℕ) → List (List ℕ)
new_lines seen before [] = []
new_lines seen before (line ∷ lines) =
    unless_among (seen before) line ++ new_lines seen (before ++ line ∷ []) lines

-- the lines that are kept: those that have no equal line before them; those that have none after
-- them; or those that are not among the last n distinct lines before them
abbrev pub kept_lines : Keep → List (List ℕ) → List (List ℕ)
kept_lines First lines = new_lines (λ before. before) [] lines
kept_lines Last lines = last_appearances lines
kept_lines (Window n) lines = new_lines (distinct_lines (Some n)) [] lines
