-- What an entry makes of its map, once a value is that of its key, and with another pair as the
-- current one.
use Rattle.std.proofs.Common.{◌≡◌, ℕ, ◌+◌, ◌≤◌, max, Bool, true, List, length, None, is_some, ap, arith, length-append}
use Rattle.std.proofs.lemmas.List.{map-append, length-map}
use Rattle.linked_hash_map.proofs.pairs.Calls.{set_or_push-present, set_or_push-absent, length-set_value}
use Rattle.linked_hash_map.proofs.{pairs.RehashCounts.rechained_raised-same, Callers.Keys.keys_of-set_value, lists.Stretches.stretch-front}
use Rattle.linked_hash_map.specs.{LinkedMap.LinkedMap, Cursor.to_visit, Cursor.without_cursor, Changes.pushed, Changes.set_or_pushed}
use Rattle.linked_hash_map.specs.{Changes.Keeps, Pairs.find, Pairs.set_value, Pairs.set_or_push, Validity.IsValid}

-- the room that this takes
module _ {K V : Type 0} (eq : K → K → Bool) (pairs : List (K × V)) (k : K) (v : V) where
  capacity-present : (capacity : ℕ) → is_some (find eq pairs k) ≡ true → length pairs ≤ capacity
      → capacity ≡ max capacity (length (set_or_push eq pairs k v))
  capacity-present capacity there within = grind (arith, set_or_push-present, length-set_value)

  max-absent : (capacity : ℕ) → find eq pairs k ≡ None → max capacity (length pairs + 1) ≡ max capacity (length (set_or_push eq pairs k v))
  max-absent capacity none = grind (arith, set_or_push-absent, length-append)

-- what an entry makes of its map, once v is its value
module _ {K V S : Type 0} (eq : K → K → Bool) (m : LinkedMap K V S) (k : K) (v : V) where
  pub set_or_pushed-present : is_some (find eq m.pairs k) ≡ true → length m.pairs ≤ m.capacity
      → record m { pairs = set_value eq m.pairs k v } ≡ set_or_pushed eq m k v
  set_or_pushed-present there within = grind (arith, set_or_push-present, capacity-present, rechained_raised-same)

  pub set_or_pushed-absent : find eq m.pairs k ≡ None → pushed m k v ≡ set_or_pushed eq m k v
  set_or_pushed-absent none = grind (arith, set_or_push-absent, max-absent)

-- those still to be visited stay so as a value is set, or a pair is pushed
module _ {K V S : Type 0} (eq : K → K → Bool) (m : LinkedMap K V S) (k : K) (v : V)
    (valid : IsValid eq m) where
  pub to_visit-pushed : to_visit (pushed m k v) ≡ to_visit m
  to_visit-pushed = grind (arith, length-map, map-append, stretch-front)

  pub to_visit-set_or_pushed : to_visit (set_or_pushed eq m k v) ≡ to_visit m
  to_visit-set_or_pushed = grind (arith, keys_of-set_value, to_visit-pushed)

-- which pair an entry stands for is nothing to a map's validity
pub IsValid-current : {K V S : Type 0} {eq : K → K → Bool} {m : LinkedMap K V S} (index : ℕ)
    → IsValid eq m → IsValid eq (record m { cursor = record m.cursor { current = index } })
IsValid-current index valid = grind arith

-- a map that differs by where a cursor or an entry stands keeps the rest
pub Keeps-same : {K V S : Type 0} {old new : LinkedMap K V S} → new ≡ without_cursor old → Keeps old new
Keeps-same same = record {
  capacity = ap (λ m. m.capacity) same;
  rechained = ap (λ m. m.rechained) same;
  hasher = ap (λ m. m.hasher) same;
  mode = ap (λ m. m.mode) same;
}
