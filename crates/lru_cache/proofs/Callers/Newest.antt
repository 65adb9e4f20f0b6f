-- For callers: the last pairs of a list.
use Rattle.std.proofs.Common.{◌≡◌, ◌-◌, ◌≤◌, ℕ, List, drop, length, ap, arith}
use Rattle.lru_cache.specs.Cache.{newest}

-- all, if there are no more
pub newest-all : {X : Type 0} (n : ℕ) (xs : List X) → length xs ≤ n → newest n xs ≡ xs
newest-all n xs few = ap (λ i. drop i xs) (let none : length xs - n ≡ 0 = omega (arith, few) in none)
