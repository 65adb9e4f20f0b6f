use Rattle.std.proofs.Common.{ℕ, ◌≡◌, ◌<◌, ◌^◌, List, take, get_or}
use Rattle.std.specs.{Int.IsInRange, Str.Parse.digits_value}
use Rattle.lhm_commands.proofs.grammar.number.Given as goal

-- the bytes so far are digits, and the value is theirs
pub record IsReadTo (word : List ℕ) (i value : ℕ) : Type 0 where
  pub digits : (k : ℕ) → k < i → IsInRange 48 57 (get_or word k 0)
  pub value_so_far : value ≡ digits_value 10 (take i word)
  pub fits : value < 2 ^ 64

abbrev pub invariant-loop-byte : goal.invariant-loop-byte
invariant-loop-byte l = IsReadTo l.word l.byte-index l.value
