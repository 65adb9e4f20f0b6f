-- For callers: how many buckets a capacity has.
use Rattle.std.proofs.{Common.ℕ, Common.◌<◌, Common.◌≤◌, Common.◌≡◌, Common.inl, Common.inr, Common.arith, Common.subst, lemmas.Nat.pow_pos}
use Rattle.std.specs.Int.{IsPowerOfTwo, IsNextPowerOfTwo}
use Rattle.lhm_ring.proofs.indexes.BucketCounts as ring
use Rattle.linked_hash_map.{specs.Counts.buckets, proofs.pairs.RehashCounts.buckets-table}

-- n is a power of two that is not below c, and no smaller one is
pub record IsLeastPower (c n : ℕ) : Type 0 where
  pub power : IsPowerOfTwo n
  pub enough : c ≤ n
  pub least : (m : ℕ) → IsPowerOfTwo m → c ≤ m → n ≤ m

-- the least power of two that is not below the capacity
pub buckets_least : (c : ℕ) → 0 < c → IsLeastPower c (buckets c)
buckets_least c some =
    let next = subst (IsNextPowerOfTwo c) (buckets-table c) (ring.IsNextPowerOfTwo-buckets c some) in let same = buckets-table c in
    record {
      power = next.0;
      enough = next.1;
      least = λ m power enough.
          -- m has m buckets, and a higher capacity has no fewer
          let own = ring.buckets-least_power m m power (omega arith) (omega arith) (omega arith) in
          elim (ring.buckets-raised c m enough) [
            | inl as_many ↦ omega (arith, same, own, as_many)
            | inr more ↦ omega (arith, same, own, more)
          ];
    }

-- a power of two has as many buckets as it is
pub buckets_power : (c : ℕ) → IsPowerOfTwo c → buckets c ≡ c
buckets_power c power =
    let some = pow_pos power.0 in let is = power.1 in let least = buckets_least c (omega arith) in
    let enough = least.enough in let no_more = least.least c power (omega arith) in
    omega arith
