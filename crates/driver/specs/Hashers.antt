-- What a hasher returns.
use Rattle.std.specs.Prelude.{ℕ, ◌*◌, ◌%◌, ◌^◌}
use Rattle.driver.specs.declared.hasher.Choice.{Choice}
use Rattle.driver.specs.declared.hasher.Choice.TheVariants.{Spread, Same, Letter, Wide, High}

-- of the number that was written and its first byte
abbrev pub hash_of : Choice → ℕ → ℕ → ℕ
hash_of Spread number first = number
hash_of Same number first = 0
hash_of Letter number first = first
hash_of Wide number first = (number * 11400714819323198485) % 2 ^ 64
hash_of High number first = (first * 72057594037927936) % 2 ^ 64
