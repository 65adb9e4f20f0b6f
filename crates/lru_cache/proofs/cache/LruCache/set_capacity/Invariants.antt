use Rattle.std.proofs.Common.{◌≡◌, length}
use Rattle.lru_cache.specs.Cache.{newest, IsKept}
use Rattle.lru_cache.proofs.cache.LruCache.set_capacity.Given as goal

abbrev pub invariant-loop-self : goal.invariant-loop-self
invariant-loop-self g l = record {
  kept : IsKept g.K.PartialEq.eq l.self-inside.map l.self-inside.limit;
  pairs : newest l.capacity l.self-inside.map.pairs ≡ newest l.capacity l.fn.self.pairs;
  room : l.self-inside.map.capacity ≡ l.fn.self.room;
  hasher : l.self-inside.map.hasher ≡ l.fn.self.hasher;
}

abbrev pub decreases-loop-self : goal.decreases-loop-self
decreases-loop-self g l = length l.self-inside.map.pairs
