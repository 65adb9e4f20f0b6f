-- What holds of every map.
use Rattle.std.specs.Prelude.{◌+◌, ◌≤◌, Bool, length}
use Rattle.std.specs.List.{IsDistinct}
use Rattle.std.specs.Map.{keys_of}
use Rattle.linked_hash_map.specs.LinkedMap.{LinkedMap}
use Rattle.linked_hash_map.specs.declared.map.TheConstants.{LIMIT}

-- a map is valid: no two of its keys are the same, it has no more pairs than room, and no more room
-- than the limit; the pairs that a cursor has still to visit are there
pub record IsValid {K V S : Type 0} (eq : K → K → Bool) (m : LinkedMap K V S) : Type 0 where
  pub distinct : IsDistinct eq (keys_of m.pairs)
  pub within : length m.pairs ≤ m.capacity
  pub limit : m.capacity ≤ LIMIT
  pub reach : m.cursor.bookmark + m.cursor.unvisited ≤ length m.pairs
