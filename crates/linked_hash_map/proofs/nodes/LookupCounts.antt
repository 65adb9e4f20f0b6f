-- What a lookup counts of the nodes, by the pairs: each stored hash is that of its key.
use Rattle.linked_hash_map.proofs.Names.{Bool, List, [], ap, arith, cond, count_by, eqb, refl, ℕ, ◌%◌, ◌∙◌, ◌∷◌, ◌≡◌, count_by-cons, Spot}
use Rattle.linked_hash_map.proofs.Names.{spot, spots, Held, buckets, same, IsKept, VisitState, bare, pairs_of, AllByRecursion}
use Rattle.linked_hash_map.{proofs.pairs.RehashCounts.buckets-table, specs.Counts.beside}
use Rattle.lhm_ring.specs.Index as nodes
use Rattle.lhm_ring.specs.Buckets as table

module _ {K V : Type 0} (hash : K → ℕ) where
  count_by-spots : (test : ℕ → Bool) (hs : List (Held (K × V))) → AllByRecursion (λ u. u.hash ≡ hash u.pair) (bare hs)
      → count_by (λ (s : Spot). test s.hash) (spots hs) ≡ count_by (λ (pair : K × V). test (hash pair.0)) (pairs_of hs)
  count_by-spots test [] h = refl
  count_by-spots test (t ∷ hs) h =
      let rest = count_by-spots test hs h.1 in let by_spot : Spot → Bool = λ s. test s.hash in
      let by_pair : K × V → Bool = λ pair. test (hash pair.0) in
      let left = count_by-cons by_spot (spot t) (spots hs) in
      let right = count_by-cons by_pair t.pair (pairs_of hs) in
      let same : cond {A = ℕ} (test t.hash) 1 0 ≡ cond {A = ℕ} (test (hash t.pair.0)) 1 0 = ap (λ n. cond {A = ℕ} (test n) 1 0) h.0 in
      omega (arith, rest, left, right, same)

module _ {K V : Type 0} {eq : K → K → Bool} {hash : K → ℕ} (hs : List (Held (K × V)))
    {capacity : ℕ} {visit : VisitState} (kept : IsKept eq hash (bare hs) capacity visit) (k : K)
    {n : ℕ} (is : n ≡ hash k) where
  pub count_with_hash-spots : nodes.count_with_hash (spots hs) n ≡ same hash (pairs_of hs) k
  count_with_hash-spots = ap (nodes.count_with_hash (spots hs)) is ∙ count_by-spots hash (λ n. eqb n (hash k)) hs kept.hashed

  pub count_in_bucket-spots : nodes.count_in_bucket (spots hs) (table.buckets capacity) n ≡ beside hash (pairs_of hs) capacity k
  count_in_bucket-spots = (λ i. nodes.count_in_bucket (spots hs) (buckets-table capacity i) (is i))
      ∙ count_by-spots hash (λ m. eqb (m % buckets capacity) (hash k % buckets capacity)) hs kept.hashed
