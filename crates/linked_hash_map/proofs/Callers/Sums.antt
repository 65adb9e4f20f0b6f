-- For callers: a sum over a map that stops at a limit.
use Rattle.std.proofs.Common.{◌≡◌, ◌≤◌, ℕ, ◌+◌, min, List, sum}

-- the sum so far and that of the rest are that of all, or the limit if this is less
abbrev pub IsSumSoFar : (all rest : List ℕ) (limit total : ℕ) → Type 0
IsSumSoFar all rest limit total = (min (total + sum rest) limit ≡ min (sum all) limit) × (total ≤ limit)
