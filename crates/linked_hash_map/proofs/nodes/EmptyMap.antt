-- A map with no pairs.
use Rattle.linked_hash_map.proofs.Names.{Bool, List, [], arith, ℕ, ◌≡◌, ◌≤◌, Held, IsKept, LIMIT, IsDistinct}
use Rattle.linked_hash_map.proofs.nodes.Kept.{no_visit}

-- no node
pub IsKept-none : {K : Type 0} {eq : K → K → Bool} {hash : K → ℕ} {us : List (Held K)} {capacity : ℕ}
    → us ≡ [] → capacity ≤ LIMIT → IsKept eq hash us capacity no_visit
unfolding IsDistinct
IsKept-none none limit = grind arith
