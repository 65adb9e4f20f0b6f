-- Runs of commands to a cache.
use Rattle.std.specs.Prelude.{◌≡◌, ℕ, ◌<◌, ◌⊎◌, Bool, cond, List, [], ◌∷◌, length, Option, Some, None, is_some}
use Rattle.linked_hash_map.specs.Pairs.{first, without_first, find, value_at, without, to_back_as_is}
use Rattle.lru_cache.specs.Cache.{Cache, newest, inserted, IsRoomAfter}
use Rattle.lru_cache.specs.declared.replay.Command.{Command}
use Rattle.lru_cache.specs.declared.replay.Command.TheVariants.{Insert, Get, Remove, RemoveLru, SetCapacity, Clear}
use Rattle.lru_cache.specs.declared.replay.Answer.{Answer}
use Rattle.lru_cache.specs.declared.replay.Answer.TheVariants.{New, Old, Refused, Found, Missing, Pair, Empty, Kept, Done}

module _ {K V : Type 0} where
  -- the old value if there is one, and the pair if there is one
  abbrev pub old_or : Answer K V → Option V → Answer K V
  old_or otherwise None = otherwise
  old_or otherwise (Some v) = Old v

  abbrev pub pair_or_empty : Option (K × V) → Answer K V
  pair_or_empty None = Empty
  pair_or_empty (Some pair) = Pair pair.0 pair.1

  -- the limit after a command
  abbrev pub limit_after : ℕ → Command K V → ℕ
  limit_after limit (SetCapacity n) = n
  limit_after limit _ = limit

module _ {K V : Type 0} (eq : K → K → Bool) where
  -- what a command that is not refused returns on these pairs
  abbrev pub answer_to : List (K × V) → Command K V → Answer K V
  answer_to pairs (Insert k v) = old_or New (value_at eq pairs k)
  answer_to pairs (Get k) = cond (is_some (find eq pairs k)) Found Missing
  answer_to pairs (Remove k) = old_or Missing (value_at eq pairs k)
  answer_to pairs RemoveLru = pair_or_empty (first pairs)
  answer_to pairs (SetCapacity n) = Kept (length (newest n pairs))
  answer_to pairs Clear = Done

  -- the pairs after it under a limit
  abbrev pub pairs_after : ℕ → List (K × V) → Command K V → List (K × V)
  pairs_after limit pairs (Insert k v) = inserted eq limit pairs k v
  pairs_after limit pairs (Get k) = to_back_as_is eq pairs k
  pairs_after limit pairs (Remove k) = without eq pairs k
  pairs_after limit pairs RemoveLru = without_first pairs
  pairs_after limit pairs (SetCapacity n) = newest n pairs
  pairs_after limit pairs Clear = []

  -- what room there may be after it
  abbrev pub IsRoomAfterRun : {S : Type 0} → Cache K V S → Command K V → ℕ → Type 0
  IsRoomAfterRun c (Insert k v) room = IsRoomAfter eq c k room
  IsRoomAfterRun c _ room = room ≡ c.room

  module _ {S : Type 0} (c : Cache K V S) (command : Command K V) (answer : Answer K V)
      (d : Cache K V S) where
    -- a cache c ran a command with this answer, and is d after it
    pub record Ran : Type 0 where
      pub answered : answer ≡ answer_to c.pairs command
      pub pairs : d.pairs ≡ pairs_after c.limit c.pairs command
      pub limit : d.limit ≡ limit_after c.limit command
      pub room : IsRoomAfterRun c command d.room
      pub hasher : d.hasher ≡ c.hasher

    -- it refused to insert a new pair: it was not full, had no room, and is as it was
    pub record RefusedPair : Type 0 where
      pub key : K
      pub value : V
      pub insertion : command ≡ Insert key value
      pub refused : answer ≡ Refused key value
      pub absent : find eq c.pairs key ≡ None
      pub not_full : length c.pairs < c.limit
      pub no_room : length c.pairs ≡ c.room
      pub unchanged : d ≡ c

    -- one of the two
    abbrev pub Steps : Type 0
    Steps = Ran ⊎ RefusedPair

  -- a cache c ran commands in turn, one answer for each, and is d after them
  abbrev pub Runs : {S : Type 0} → Cache K V S → List (Command K V) → List (Answer K V)
      → Cache K V S → Type 0
  Runs c [] [] d = d ≡ c
  Runs c [] (answer ∷ answers) d = ⊥
  Runs c (command ∷ commands) [] d = ⊥
  Runs {S} c (command ∷ commands) (answer ∷ answers) d =
      (next : Cache K V S) × Steps c command answer next × Runs next commands answers d
