-- What a contract sees of a `Recent`.
use Rattle.std.specs.Prelude.{ℕ, List, Option}
use Rattle.std.specs.declared.hash.BuildHasher as builder
use Rattle.std.specs.declared.hash.Hasher as hasher
use Rattle.dedup_lines.specs.declared.recent.Recent.{Recent}
use Rattle.dedup_lines.specs.Push.{bytes_of}

module _ {S H : Type 0} {b : builder.Ghosts S H} {w : hasher.Ghosts H} where
  -- the lines, and how many there may be
  abbrev pub recent_lines : Recent S H b w → List (List ℕ)
  recent_lines recent = bytes_of recent.lines.items

  abbrev pub recent_size : Recent S H b w → Option ℕ
  recent_size recent = recent.size
