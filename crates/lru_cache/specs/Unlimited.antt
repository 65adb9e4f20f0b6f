-- The pairs that a run would leave if none went for another: the unlimited list, by the log of its
-- commands and their answers alone.
use Rattle.std.specs.Prelude.{◌≡◌, Bool, true, false, List, [], ◌∷◌, ◌++◌, length}
use Rattle.linked_hash_map.specs.Pairs.{without, to_back, to_back_as_is}
use Rattle.lru_cache.specs.Cache.{Cache, newest}
use Rattle.lru_cache.specs.declared.replay.Command.{Command}
use Rattle.lru_cache.specs.declared.replay.Command.TheVariants.{Insert, Get, Remove, RemoveLru, SetCapacity, Clear}
use Rattle.lru_cache.specs.declared.replay.Answer.{Answer}
use Rattle.lru_cache.specs.declared.replay.Answer.TheVariants.{New, Old, Found, Pair, Kept}

-- whether a pair was removed since the run or the present limit began, or the cache was cleared,
-- after one more command
abbrev pub removed_after : {K V : Type 0} → Bool → Command K V → Answer K V → Bool
removed_after removed (Remove k) (Old v) = true
removed_after removed RemoveLru (Pair k v) = true
removed_after removed (SetCapacity n) answer = false
removed_after removed Clear answer = false
removed_after removed _ _ = removed

abbrev pub removed_after_all : {K V : Type 0} → Bool → List (Command K V) → List (Answer K V)
    → Bool
removed_after_all removed (command ∷ commands) (answer ∷ answers) =
    removed_after_all (removed_after removed command answer) commands answers
removed_after_all removed _ _ = removed

module _ {K V : Type 0} (eq : K → K → Bool) where
  -- the unlimited list after one more command. A new key takes away an older pair of its own, which
  -- the cache no longer had. What a change of the limit keeps is where the list begins anew.
  abbrev pub unlimited_after : List (K × V) → Command K V → Answer K V → List (K × V)
  unlimited_after pairs (Insert k v) New = without eq pairs k ++ (k, v) ∷ []
  unlimited_after pairs (Insert k v) (Old old) = to_back eq pairs k v
  unlimited_after pairs (Get k) Found = to_back_as_is eq pairs k
  unlimited_after pairs (Remove k) (Old v) = without eq pairs k
  unlimited_after pairs RemoveLru (Pair k v) = without eq pairs k
  unlimited_after pairs (SetCapacity n) (Kept count) = newest count pairs
  unlimited_after pairs Clear answer = []
  unlimited_after pairs _ _ = pairs

  abbrev pub unlimited : List (K × V) → List (Command K V) → List (Answer K V) → List (K × V)
  unlimited pairs (command ∷ commands) (answer ∷ answers) =
      unlimited (unlimited_after pairs command answer) commands answers
  unlimited pairs _ _ = pairs

  -- after a run that began with the cache `old`, the cache has the last pairs of the unlimited list,
  -- and as many as the limit allows if none was removed. After a removal that list still has older
  -- pairs, which went before, and the cache does not.
  pub record HasNewest {S : Type 0} (old : Cache K V S) (commands : List (Command K V))
      (answers : List (Answer K V)) (new : Cache K V S) : Type 0 where
    pub last : new.pairs ≡ newest (length new.pairs) (unlimited old.pairs commands answers)
    pub limited : removed_after_all false commands answers ≡ false
        → new.pairs ≡ newest new.limit (unlimited old.pairs commands answers)
