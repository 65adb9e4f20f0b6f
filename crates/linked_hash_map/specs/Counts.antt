-- What lookups and changes of the capacity count.
use Rattle.std.specs.Prelude.{ℕ, zero, suc, ◌+◌, ◌*◌, ◌%◌, ◌==◌, nat_le, if◌then◌else◌, List, count_by}

-- how many buckets a capacity has: 0 for 0, otherwise it, rounded up to a power of two
unfoldable pub buckets : ℕ → ℕ
buckets zero = 0
buckets (suc c) =
    if nat_le (suc c) (buckets c) then buckets c else (if c == 0 then 1 else 2 * buckets c)

-- given the hash of each key
module _ {K V : Type 0} (hash : K → ℕ) where
  -- how many pairs have the hash of k
  abbrev pub same : List (K × V) → K → ℕ
  same pairs k = count_by (λ pair. hash pair.0 == hash k) pairs

  -- how many have a hash in the bucket of that of k, at this capacity
  abbrev pub beside : List (K × V) → ℕ → K → ℕ
  beside pairs capacity k =
      count_by (λ pair. (hash pair.0 % buckets capacity) == (hash k % buckets capacity)) pairs

-- how many nodes rehashes have moved, after the capacity was raised from c to d with len pairs
abbrev pub rechained_raised : ℕ → ℕ → ℕ → ℕ → ℕ
rechained_raised rechained len c d = if buckets c == buckets d then rechained else (rechained + len)

-- the same, after the capacity c was lowered to the number of pairs: nothing counts if it was that
-- already
abbrev pub rechained_fitted : ℕ → ℕ → ℕ → ℕ
rechained_fitted rechained len c =
    if c == len then rechained else (if buckets c == buckets len then 0 else len)

-- the same, after the capacity was raised n times by one, from c on, each time at full capacity
abbrev pub rechained_each : ℕ → ℕ → ℕ → ℕ
rechained_each rechained c zero = rechained
rechained_each rechained c (suc n) =
    rechained_each (rechained_raised rechained c c (c + 1)) (c + 1) n
