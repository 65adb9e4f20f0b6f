-- Texts, and the keys that they look up.
use Rattle.std.specs.Prelude.{ℕ, Bool, List, String}
use Rattle.std.specs.Str.{bytes_eq}
use Rattle.std.specs.String.{string_bytes}
use Rattle.std.specs.declared.alloc.Global.{Global}

-- the text is that of the key
abbrev pub names : List ℕ → String Global → Bool
names text key = bytes_eq text (string_bytes key)
