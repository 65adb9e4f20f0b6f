-- What is remembered once a line more comes.
use Rattle.std.specs.Prelude.{ℕ, not, List, [], ◌∷◌, ◌++◌, filter, map, Option, None, Some, Vec}
use Rattle.std.specs.Str.{bytes_eq}
use Rattle.std.specs.declared.alloc.Global.{Global}
use Rattle.dedup_lines.specs.Kept.{last_lines}

-- the bytes of each line
abbrev pub bytes_of : List (Vec ℕ Global) → List (List ℕ)
bytes_of lines = map (λ line. line.items) lines

-- the lines other than this one, and then this one
abbrev pub to_back : List (List ℕ) → List ℕ → List (List ℕ)
to_back lines line = filter (λ other. not (bytes_eq line other)) lines ++ line ∷ []

-- the lines, or the last n of them
abbrev pub trimmed : Option ℕ → List (List ℕ) → List (List ℕ)
trimmed None lines = lines
trimmed (Some n) lines = last_lines n lines
