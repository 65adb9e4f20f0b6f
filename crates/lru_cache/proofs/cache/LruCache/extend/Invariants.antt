use Rattle.std.proofs.Common.{◌≡◌, ◌+◌, ◌<◌, ◌≤◌, max}
use Rattle.lru_cache.specs.{Cache.IsValidCache, Extension.insert_each, Extension.IsRoomAfterEach}
use Rattle.lru_cache.proofs.cache.LruCache.extend.Given as goal

abbrev pub invariant-loop-key : goal.invariant-loop-key
invariant-loop-key g l = record {
  pairs : l.self.pairs ≡ insert_each g.K.PartialEq.eq l.fn.self.limit l.fn.self.pairs l.yielded;
  limit : l.self.limit ≡ l.fn.self.limit;
  hasher : l.self.hasher ≡ l.fn.self.hasher;
  each : IsRoomAfterEach g.K.PartialEq.eq l.fn.self l.yielded l.self.room;
  room : l.fn.self.room ≤ l.self.room;
  room_most : l.self.room ≤ max l.fn.self.room (l.fn.self.limit + 1);
  room_enough : l.fn.self.limit < l.fn.self.room → l.self.room ≡ l.fn.self.room;
  valid : IsValidCache g.K.PartialEq.eq l.self;
}
