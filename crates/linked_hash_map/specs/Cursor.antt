-- The pairs that a cursor has still to visit.
use Rattle.std.specs.Prelude.{ℕ, ◌+◌, ◌<◌, ◌≤◌, ◌⊎◌, List, take, drop}
use Rattle.std.proofs.Common.{inl, inr, ap}
use Rattle.std.proofs.Math.Bridge.{le_prop}
use Rattle.std.proofs.Math.Nat.{not-suc-le_self, le_trans, le-add_right}
use Rattle.std.specs.Map.{keys_of}
use Rattle.linked_hash_map.specs.LinkedMap.{LinkedMap, no_cursor}

-- no index is before a stretch and behind it
not_before_and_behind : {index start : ℕ} (len : ℕ) → index < start → start + len ≤ index → ⊥
not_before_and_behind {index} {start} len before behind =
    not-suc-le_self index (le_trans before (le_trans (le-add_right start len) behind))

module _ {K V S : Type 0} where
  -- the keys that a cursor has still to visit, in order
  abbrev pub to_visit : LinkedMap K V S → List K
  to_visit m = take m.cursor.unvisited (drop m.cursor.bookmark (keys_of m.pairs))

  -- the map with nothing left to visit, and no entry
  abbrev pub without_cursor : LinkedMap K V S → LinkedMap K V S
  without_cursor m = record m { cursor = no_cursor }

  -- the index is before the pairs that are still to be visited, or behind them
  abbrev pub IsOutside : ℕ → LinkedMap K V S → Type 0
  IsOutside index m = (index < m.cursor.bookmark) ⊎ (m.cursor.bookmark + m.cursor.unvisited ≤ index)

  -- `IsOutside` has at most one proof
  pub IsOutside-prop : (index : ℕ) (m : LinkedMap K V S) → IsProp (IsOutside index m)
  IsOutside-prop index m (inl h) (inl k) = ap inl (le_prop h k)
  IsOutside-prop index m (inl h) (inr k) = absurd (not_before_and_behind m.cursor.unvisited h k)
  IsOutside-prop index m (inr h) (inl k) = absurd (not_before_and_behind m.cursor.unvisited k h)
  IsOutside-prop index m (inr h) (inr k) = ap inr (le_prop h k)
