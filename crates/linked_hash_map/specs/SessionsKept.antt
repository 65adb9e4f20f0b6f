-- Private: how the sessions of a table are kept in a map.
use Rattle.std.specs.Prelude.{◌≡◌, ℕ, ◌≤◌, List, map, nat_eq}
use Rattle.linked_hash_map.specs.LinkedMap.{LinkedMap}
use Rattle.linked_hash_map.specs.declared.map.Mode.TheVariants.{Touch}
use Rattle.linked_hash_map.specs.Validity.{IsValid}
use Rattle.linked_hash_map.specs.SessionTables.{Session, total_weight}
use Rattle.linked_hash_map.specs.declared.sessions.storage.Weighted.{Weighted}

module _ {T : Type 0} where
  -- the sessions that the pairs of a map stand for, in order
  abbrev pub sessions_of : List (ℕ × Weighted T) → List (Session T)
  sessions_of pairs = map (λ pair. (pair.0, pair.1.weight, pair.1.payload)) pairs

  -- the map is valid and in Touch, the total is the sum of the weights, and it is at most the limit
  pub record IsKeptWithin {S : Type 0} (m : LinkedMap ℕ (Weighted T) S) (total limit : ℕ) : Type 0
    where
      pub valid : IsValid nat_eq m
      pub mode : m.mode ≡ Touch
      pub sum : total ≡ total_weight (sessions_of m.pairs)
      pub within : total ≤ limit
