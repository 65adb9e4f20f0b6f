-- What `--help` prints.
use Rattle.std.specs.Prelude.{ℕ, List, [], ◌∷◌, codes}
use Rattle.dedup_lines.specs.Lines.{text_of}

abbrev pub about : List ℕ
about = codes "dedup prints each line of standard input once, at its first appearance."

abbrev pub about_last : List ℕ
about_last = codes "--last: prints each line once, at its last appearance."

abbrev pub about_window : List ℕ
about_window = codes "--window N: prints each line that is not among the last N distinct lines before it."

abbrev pub help_text : List ℕ
help_text = text_of (about ∷ about_last ∷ about_window ∷ [])
