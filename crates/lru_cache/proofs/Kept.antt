-- A cache, by the map that keeps it.
use Rattle.std.proofs.Common.{◌≡◌, ℕ, ◌≤◌, Bool, List, length, refl, arith}
use Rattle.linked_hash_map.specs.{LinkedMap.LinkedMap, Validity.IsValid}
use Rattle.linked_hash_map.specs.Clones as of_map
use Rattle.lru_cache.specs.{Cache.cache, Cache.IsValidCache, Clones.IsClone}

module _ {K V S : Type 0} (eq : K → K → Bool) where
  -- as many pairs as before, in a valid map
  pub IsValidCache-as_many : (m : LinkedMap K V S) (before : List (K × V)) (limit : ℕ) → IsValid eq m
      → length m.pairs ≡ length before → length before ≤ limit → IsValidCache eq (cache m.pairs limit m.capacity m.hasher)
  IsValidCache-as_many m before limit valid as_many within =
      record { distinct = valid.distinct; within = omega arith; within_room = valid.within; room_limit = valid.limit }

  -- a clone of the map is one of the cache
  pub IsClone-kept : (IsKeyClone : K → K → Type 0) (IsValueClone : V → V → Type 0) (IsHasherClone : S → S → Type 0)
      (m n : LinkedMap K V S) (limit : ℕ) → of_map.IsClone eq IsKeyClone IsValueClone IsHasherClone m n
      → length m.pairs ≤ limit
      → IsClone eq IsKeyClone IsValueClone IsHasherClone (cache m.pairs limit m.capacity m.hasher)
      (cache n.pairs limit n.capacity n.hasher)
  IsClone-kept IsKeyClone IsValueClone IsHasherClone m n limit clone within =
      let room = clone.capacity in let few = clone.valid.within in
      record {
        pairs = clone.pairs;
        limit = refl;
        room = clone.capacity;
        hasher = clone.hasher;
        valid = record {
          distinct = clone.valid.distinct;
          within = omega arith;
          within_room = clone.valid.within;
          room_limit = clone.valid.limit;
        };
        in_order = clone.in_order;
        same_pairs = clone.same_pairs;
      }
