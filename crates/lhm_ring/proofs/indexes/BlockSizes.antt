-- The block of n buckets has room for n heads, and for n words behind them.
use Rattle.lhm_ring.proofs.Names.{arith, block_heads, ℕ, ◌*◌, ◌-◌, ◌<◌, ◌≡◌, ◌≤◌}

pub block_heads-enough : (n : ℕ) → n ≤ block_heads n
block_heads-enough n = omega arith

pub block_heads-roomy : (n : ℕ) → n ≤ 4 * (block_heads n - n)
block_heads-roomy n = omega arith

-- the block of one to four buckets is the same
pub block_heads-few : (n : ℕ) → 0 < n → n ≤ 4 → block_heads n ≡ 5
block_heads-few n some few = omega (arith, some, few)
