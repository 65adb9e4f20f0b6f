-- What holds of every set.
use Rattle.std.specs.Prelude.{◌≤◌, Bool, length}
use Rattle.std.specs.List.{IsDistinct}
use Rattle.linked_hash_map.specs.declared.map.TheConstants.{LIMIT}
use Rattle.linked_hash_set.specs.LinkedSet.{LinkedSet}

-- a set is valid: no two of its items are the same, it has no more items than room, and no more
-- room than the limit
pub record IsValid {T S : Type 0} (eq : T → T → Bool) (s : LinkedSet T S) : Type 0 where
  pub distinct : IsDistinct eq s.items
  pub within : length s.items ≤ s.capacity
  pub limit : s.capacity ≤ LIMIT
