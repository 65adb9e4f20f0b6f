-- What a contract sees of a cache: a list of pairs, the one used least recently first.
use Rattle.std.specs.Prelude.{◌≡◌, ◌⊎◌, ℕ, ◌+◌, ◌-◌, ◌<◌, ◌≤◌, nat_lt, Bool, cond, List, [], ◌∷◌}
use Rattle.std.specs.Prelude.{◌++◌, length, drop, Option, Some, None, IsSome}
use Rattle.std.specs.List.{IsDistinct}
use Rattle.std.specs.Map.{keys_of}
use Rattle.linked_hash_map.specs.LinkedMap.{LinkedMap}
use Rattle.linked_hash_map.specs.declared.map.Mode.TheVariants.{Touch}
use Rattle.linked_hash_map.specs.Pairs.{first, find, value_at, to_back}
use Rattle.linked_hash_map.specs.declared.map.TheConstants.{LIMIT}
use Rattle.linked_hash_map.specs.Validity.{IsValid}

pub record Cache (K V S : Type 0) : Type 0 where
  -- the pairs, the one used least recently first
  pub pairs : List (K × V)
  -- how many pairs there are at most
  pub limit : ℕ
  -- for how many pairs there is memory
  pub room : ℕ
  -- what makes a hasher for each key
  pub hasher : S

-- the last n of a list, or all if there are fewer
abbrev pub newest : {X : Type 0} → ℕ → List X → List X
newest n xs = drop (length xs - n) xs

-- the pair that goes for another: of a key that has a value, the given key and that value, and of a
-- new key the first of the pairs with the given one at the back, if these are more than n
abbrev pub replaced_or_first : {K V : Type 0} → ℕ → List (K × V) → K → V → Option V
    → Option (K × V)
replaced_or_first n pairs k v (Some old) = Some (k, old)
replaced_or_first n pairs k v None =
    cond (nat_lt (length pairs) n) None (first (pairs ++ (k, v) ∷ []))

module _ {K V : Type 0} (eq : K → K → Bool) where
  -- the pairs after an insertion, with at most n
  abbrev pub inserted : ℕ → List (K × V) → K → V → List (K × V)
  inserted n pairs k v = newest n (to_back eq pairs k v)

  -- the pair that goes for that of k and v
  abbrev pub gone : ℕ → List (K × V) → K → V → Option (K × V)
  gone n pairs k v = replaced_or_first n pairs k v (value_at eq pairs k)

  -- after a call the key q has the value that it had before, or none
  abbrev pub SameOrNone : List (K × V) → List (K × V) → K → Type 0
  SameOrNone before after q =
      (value_at eq after q ≡ None) ⊎ (value_at eq after q ≡ value_at eq before q)

module _ {K V S : Type 0} where
  abbrev pub cache : List (K × V) → ℕ → ℕ → S → Cache K V S
  cache pairs limit room hasher =
      record { pairs = pairs; limit = limit; room = room; hasher = hasher }

  -- all but the pairs stays
  pub record Keeps (old new : Cache K V S) : Type 0 where
    pub limit : new.limit ≡ old.limit
    pub room : new.room ≡ old.room
    pub hasher : new.hasher ≡ old.hasher

  -- what room there may be once k is inserted in a cache c: as much as before if k is present, or if
  -- there is room for one pair more; else room for one more, or as much as before if c is full and
  -- memory was refused
  pub record IsRoomAfter (eq : K → K → Bool) (c : Cache K V S) (k : K) (room : ℕ) : Type 0 where
    pub present : IsSome (find eq c.pairs k) → room ≡ c.room
    pub below : length c.pairs < c.room → room ≡ c.room
    pub at : find eq c.pairs k ≡ None → length c.pairs ≡ c.room
        → (room ≡ c.room + 1) ⊎ ((length c.pairs ≡ c.limit) × (room ≡ c.room))

  -- a cache is valid: no two of its keys are the same, it has no more pairs than the limit, and no
  -- more than room, and no more room than a map may have
  pub record IsValidCache (eq : K → K → Bool) (c : Cache K V S) : Type 0 where
    pub distinct : IsDistinct eq (keys_of c.pairs)
    pub within : length c.pairs ≤ c.limit
    pub within_room : length c.pairs ≤ c.room
    pub room_limit : c.room ≤ LIMIT

  -- private: how a cache is kept in a map
  pub record IsKept (eq : K → K → Bool) (m : LinkedMap K V S) (limit : ℕ) : Type 0 where
    pub valid : IsValid eq m
    pub mode : m.mode ≡ Touch
    pub within : length m.pairs ≤ limit
