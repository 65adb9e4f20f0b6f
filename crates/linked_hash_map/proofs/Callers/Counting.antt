-- For callers: counts of items that the map has, and that they do not overflow.
use Rattle.std.proofs.Common.{◌≡◌, ℕ, ◌≤◌, length-take, take, Bool, List, arith}
use Rattle.std.{specs.List.count_by, proofs.lemmas.List.Sums.count_by-le-length}
use Rattle.linked_hash_map.proofs.Callers.Counted.{known_counts}

-- of the first items at most as many pass a test as there are
pub count_by-take_most : {X : Type 0} (p : X → Bool) (i : ℕ) (xs : List X)
    → (count_by p (take i xs) ≡ count_by p (take i xs)) × (count_by p (take i xs) ≤ i)
count_by-take_most p i xs = grind (arith, count_by-le-length, length-take)

-- counts of items that the map has, and that they fit
pub ruleset known_counts_fit = (known_counts, count_by-take_most)
