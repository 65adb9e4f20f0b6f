-- What a clone of a cache is.
use Rattle.std.specs.Prelude.{◌≡◌, Bool, IsTrue, List, [], length}
use Rattle.linked_hash_map.specs.declared.map.Mode.TheVariants.{Touch}
use Rattle.linked_hash_map.specs.Inserts.{insert_each}
use Rattle.linked_hash_map.specs.Clones.{AreClones}
use Rattle.lru_cache.specs.Cache.{Cache, IsValidCache}

-- a cache d has clones of the pairs of a cache c, inserted in order, its limit, room for as many
-- pairs, and a clone of the hasher
pub record IsClone {K V S : Type 0} (eq : K → K → Bool) (IsKeyClone : K → K → Type 0)
    (IsValueClone : V → V → Type 0) (IsHasherClone : S → S → Type 0) (c d : Cache K V S) : Type 0
  where
    pub pairs : (clones : List (K × V)) × AreClones IsKeyClone IsValueClone c.pairs clones
        × (d.pairs ≡ insert_each eq Touch [] clones)
    pub limit : d.limit ≡ c.limit
    pub room : d.room ≡ length c.pairs
    pub hasher : IsHasherClone c.hasher d.hasher
    pub valid : IsValidCache eq d
    -- if a clone of a key is the same key, its list is the clones in order
    pub in_order : ((k clone : K) → IsKeyClone k clone → IsTrue (eq k clone))
        → AreClones IsKeyClone IsValueClone c.pairs d.pairs
    -- if clones are the same keys and values, its list is the same
    pub same_pairs : ((k clone : K) → IsKeyClone k clone → clone ≡ k)
        → ((v clone : V) → IsValueClone v clone → clone ≡ v) → d.pairs ≡ c.pairs
