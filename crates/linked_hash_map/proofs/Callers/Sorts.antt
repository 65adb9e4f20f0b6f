-- For callers: what ascends after `sort_by` and `sort_by_key`, as std says of a list by
-- `IsNonDecreasingBy-from_sort_by`.
use Rattle.std.proofs.Common.{◌≡◌, ℕ, List, Bor, ap}
use Rattle.std.proofs.lemmas.{Fn.always_returns_same, List.Sorted.ranks_by, List.Sorted.IsNonDecreasingBy-from_sort}
use Rattle.std.specs.{Cmp.IsTotalOrder, Cmp.nat_cmp_total, Fn.Mut, Fn.Called, List.Sorted.IsNonDecreasingBy, List.Sorted.IsSortedByKey}
use Rattle.std.specs.{Ordering.is_lt, Ordering.nat_cmp, declared.cmp.Ordering.Ordering}
use Rattle.linked_hash_map.specs.Sort.{IsSortedByClosure, IsSortedByKeyClosure}

module _ {K V F : Type 0} where
  -- each call compares what n gives of the two pairs
  pub IsSortedByKey-from_sort_by_pairs : {T : Type 0} {cmp : T → T → Ordering} → IsTotalOrder cmp → (n : K × V → T)
      → {g : Mut F (Bor K × (Bor V × (Bor K × (Bor V × Unit {0})))) Ordering} {f : F} (pairs : List (K × V)) → IsSortedByClosure g f pairs
      → ((a : Bor K × (Bor V × (Bor K × (Bor V × Unit {0})))) (r : Ordering) (f' : F) → Called g f a r f'
      → (r ≡ cmp (n (a.0.now, a.1.0.now)) (n (a.1.1.0.now, a.1.1.1.0.now))) × (f' ≡ f))
      → IsSortedByKey n cmp pairs
  IsSortedByKey-from_sort_by_pairs {cmp = cmp} total n {g = g} {f = f} pairs sorted call =
      sorted (λ p q. is_lt (cmp (n p) (n q))) (ranks_by total n)
      (always_returns_same g (λ a r. is_lt r ≡ is_lt (cmp (n (a.0.now, a.1.0.now)) (n (a.1.1.0.now, a.1.1.1.0.now)))) f
      (λ a r f' called. (ap is_lt (call a r f' called).0, (call a r f' called).1)))

  -- the same of numbers
  pub IsNonDecreasingBy-from_sort_by_pairs : (n : K × V → ℕ)
      → {g : Mut F (Bor K × (Bor V × (Bor K × (Bor V × Unit {0})))) Ordering} {f : F} (pairs : List (K × V)) → IsSortedByClosure g f pairs
      → ((a : Bor K × (Bor V × (Bor K × (Bor V × Unit {0})))) (r : Ordering) (f' : F) → Called g f a r f'
      → (r ≡ nat_cmp (n (a.0.now, a.1.0.now)) (n (a.1.1.0.now, a.1.1.1.0.now))) × (f' ≡ f))
      → IsNonDecreasingBy n pairs
  IsNonDecreasingBy-from_sort_by_pairs n pairs sorted call =
      IsNonDecreasingBy-from_sort n pairs (IsSortedByKey-from_sort_by_pairs nat_cmp_total n pairs sorted call)

  -- and if each call returns n of the pair
  pub IsNonDecreasingBy-from_sort_by_key_pairs : (n : K × V → ℕ)
      → {g : Mut F (Bor K × (Bor V × Unit {0})) ℕ} {f : F} (pairs : List (K × V)) → IsSortedByKeyClosure g nat_cmp f pairs
      → ((a : Bor K × (Bor V × Unit {0})) (r : ℕ) (f' : F) → Called g f a r f' → (r ≡ n (a.0.now, a.1.0.now)) × (f' ≡ f))
      → IsNonDecreasingBy n pairs
  IsNonDecreasingBy-from_sort_by_key_pairs n {g = g} {f = f} pairs sorted call =
      IsNonDecreasingBy-from_sort n pairs (sorted n (always_returns_same g (λ a r. r ≡ n (a.0.now, a.1.0.now)) f call))
