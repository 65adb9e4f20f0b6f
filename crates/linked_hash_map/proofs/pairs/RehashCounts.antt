-- The counts of rehashed nodes, by the capacities before and after.
use Rattle.std.proofs.Common.{◌≡◌, ℕ, zero, suc, ◌+◌, ◌-◌, ◌*◌, ◌≤◌, max, ap, arith, refl, cond, eqb, leb}
use Rattle.std.proofs.lemmas.Bool.{eq-eqb}
use Rattle.linked_hash_map.specs.Counts.{buckets, rechained_raised, rechained_fitted, rechained_each}
use Rattle.lhm_ring.specs.Buckets as table

-- a table has as many buckets, and counts the same
pub buckets-table : (c : ℕ) → table.buckets c ≡ buckets c
unfolding Rattle.lhm_ring.specs.Buckets.buckets buckets
buckets-table zero = refl
buckets-table (suc c) = ap (λ n. cond (leb (suc c) n) n (cond {A = ℕ} (eqb c 0) 1 (2 * n))) (buckets-table c)

pub rechained_raised-table : (rechained len c d : ℕ) → table.rechained_raised rechained len c d ≡ rechained_raised rechained len c d
rechained_raised-table rechained len c d = λ i. cond (eqb (buckets-table c i) (buckets-table d i)) rechained (rechained + len)

pub rechained_fitted-table : (rechained len c : ℕ) → table.rechained_fitted rechained len c ≡ rechained_fitted rechained len c
rechained_fitted-table rechained len c = grind (arith, buckets-table)

-- a capacity that stays counts nothing
pub rechained_raised-same : (rechained len c : ℕ) → rechained_raised rechained len c c ≡ rechained
rechained_raised-same rechained len c = ap (λ b. cond b rechained (rechained + len)) (eq-eqb (buckets c) (buckets c) refl)

pub rechained_fitted-same : (rechained len c : ℕ) → c ≡ len → rechained_fitted rechained len c ≡ rechained
rechained_fitted-same rechained len c same = grind (arith, eq-eqb)

-- one raise more, after n of them
pub rechained_each-more : (rechained c n : ℕ)
    → rechained_each rechained c (suc n) ≡ rechained_raised (rechained_each rechained c n) (c + n) (c + n) (c + n + 1)
rechained_each-more rechained c zero = let here : c ≡ c + 0 = omega arith in ap (λ k. rechained_raised rechained k k (k + 1)) here
rechained_each-more rechained c (suc n) = grind (arith, rechained_each-more (rechained_raised rechained c c (c + 1)) (c + 1) n)

-- one insertion more, of which the pairs were len and are then longer by one at most
pub rechained_each-put : (rechained start : ℕ) {capacity len longer capacity' so_far then : ℕ} → start ≤ capacity
    → so_far ≡ rechained_each rechained start (capacity - start) → len ≤ capacity → longer ≤ len + 1 → capacity' ≡ max capacity longer
    → then ≡ rechained_raised so_far len capacity capacity' → then ≡ rechained_each rechained start (capacity' - start)
rechained_each-put rechained start above before within one room counted = grind (arith, rechained_each-more, rechained_raised-same)

-- after an insertion, and where the capacity stays
pub rechained_each-insert : (rechained : ℕ) {len longer capacity capacity' then : ℕ} → len ≤ capacity → longer ≤ len + 1
    → capacity' ≡ max capacity longer → then ≡ rechained_raised rechained len capacity capacity'
    → then ≡ rechained_each rechained capacity (capacity' - capacity)
rechained_each-insert rechained within one room counted = grind (arith, rechained_each-put)

pub rechained_each-same : (rechained : ℕ) {capacity capacity' then : ℕ} → capacity' ≡ capacity → then ≡ rechained
    → then ≡ rechained_each rechained capacity (capacity' - capacity)
rechained_each-same rechained same is = grind arith
