-- What calls make of a map: updates of what it was, so that they name what changes and nothing
-- else.
use Rattle.std.specs.Prelude.{◌≡◌, ◌+◌, Bool, Option, Some, max, [], ◌∷◌, ◌++◌, length, slice_get}
use Rattle.linked_hash_map.specs.LinkedMap.{LinkedMap}
use Rattle.linked_hash_map.specs.Cursor.{to_visit, without_cursor, IsOutside}
use Rattle.linked_hash_map.specs.Pairs.{to_back, to_back_by, set_or_push}
use Rattle.linked_hash_map.specs.Validity.{IsValid}
use Rattle.linked_hash_map.specs.Counts.{rechained_raised}

module _ {K V S : Type 0} where
  -- with the pair of k and v at the back, and room for it: k is absent
  abbrev pub pushed : LinkedMap K V S → K → V → LinkedMap K V S
  pushed m k v =
      let capacity = max m.capacity (length m.pairs + 1) in
      record m {
        pairs = m.pairs ++ (k, v) ∷ [];
        capacity = capacity;
        rechained = rechained_raised m.rechained (length m.pairs) m.capacity capacity;
      }

  -- with v as the value of k, in the place of its pair, or at the back if there is none, and room
  -- for it
  abbrev pub set_or_pushed : (K → K → Bool) → LinkedMap K V S → K → V → LinkedMap K V S
  set_or_pushed eq m k v =
      let pairs = set_or_push eq m.pairs k v in let capacity = max m.capacity (length pairs) in
      record m {
        pairs = pairs;
        capacity = capacity;
        rechained = rechained_raised m.rechained (length m.pairs) m.capacity capacity;
      }

  -- with the pair of k at the back, and v as its value; nothing is left for a cursor to visit
  abbrev pub refreshed : (K → K → Bool) → LinkedMap K V S → K → V → LinkedMap K V S
  refreshed eq m k v = record (without_cursor m) { pairs = to_back eq m.pairs k v }

  -- the same by what looks up a key
  abbrev pub refreshed_by : {A : Type 0} → (A → K → Bool) → (A → Option K) → LinkedMap K V S → A
      → V → LinkedMap K V S
  refreshed_by eq as_key m k v =
      record (without_cursor m) { pairs = to_back_by eq as_key m.pairs k v }

  -- with no pair; nothing is left for a cursor to visit
  abbrev pub drained : LinkedMap K V S → LinkedMap K V S
  drained m = record (without_cursor m) { pairs = [] }

module _ {K V S : Type 0} (old new : LinkedMap K V S) where
  -- the hasher and the mode stay
  pub record KeepsSettings : Type 0 where
    pub hasher : new.hasher ≡ old.hasher
    pub mode : new.mode ≡ old.mode

  -- all but the pairs and the cursor stays
  pub record Keeps : Type 0 where
    pub capacity : new.capacity ≡ old.capacity
    pub rechained : new.rechained ≡ old.rechained
    pub hasher : new.hasher ≡ old.hasher
    pub mode : new.mode ≡ old.mode

-- the current pair was moved and written: it is still the current one, and none of those to visit,
-- which stay, as all but the pairs does
pub record MovesCurrent {K V S : Type 0} (eq : K → K → Bool) (write : K × V → K × V)
    (old new : LinkedMap K V S) : Type 0 where
  pub pair : (pair : K × V) → slice_get old.pairs old.cursor.current ≡ Some pair
      → slice_get new.pairs new.cursor.current ≡ Some (write pair)
  pub keeps : Keeps old new
  pub visit : to_visit new ≡ to_visit old
  pub outside : IsOutside new.cursor.current new
  pub valid : IsValid eq old
  pub stays_valid : IsValid eq new
