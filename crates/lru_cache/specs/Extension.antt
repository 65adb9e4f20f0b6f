-- Insertions one after another.
use Rattle.std.specs.Prelude.{◌≡◌, ℕ, Bool, List, [], ◌∷◌, Option}
use Rattle.linked_hash_map.specs.Inserts.{GivesAll, GivesThen}
use Rattle.lru_cache.specs.Cache.{Cache, inserted, IsRoomAfter}

-- the pairs once the items went in one by one, with at most n after each
abbrev pub insert_each : {K V : Type 0} → (K → K → Bool) → ℕ → List (K × V) → List (K × V)
    → List (K × V)
insert_each eq n pairs [] = pairs
insert_each eq n pairs (item ∷ items) =
    insert_each eq n (inserted eq n pairs item.0 item.1) items

-- what room there may be once the items went into a cache c one by one: after each what there may
-- be after one insertion
abbrev pub IsRoomAfterEach : {K V S : Type 0} → (K → K → Bool) → Cache K V S → List (K × V) → ℕ
    → Type 0
IsRoomAfterEach eq c [] room = room ≡ c.room
IsRoomAfterEach eq c (item ∷ items) room =
    (next : ℕ) × IsRoomAfter eq c item.0 next
    × IsRoomAfterEach eq
    (record c { pairs = inserted eq c.limit c.pairs item.0 item.1; room = next }) items room

module _ {T I K V S : Type 0} (becomes : T → I → Type 0)
    (steps : I → Option (K × V) → I → Type 0)
    (source : T) (eq : K → K → Bool) (old new : Cache K V S) where
  -- all items that it gives went in one by one
  pub record InsertsAll : Type 0 where
    pub given : List (K × V)
    pub gives : GivesAll becomes steps source given
    pub pairs : new.pairs ≡ insert_each eq old.limit old.pairs given
    pub room : IsRoomAfterEach eq old given new.room

  -- items that it gives went in one by one, up to this one
  pub record InsertsUntil (key : K) (value : V) : Type 0 where
    pub given : List (K × V)
    pub gives : GivesThen becomes steps source given (key, value)
    pub pairs : new.pairs ≡ insert_each eq old.limit old.pairs given
    pub room : IsRoomAfterEach eq old given new.room
