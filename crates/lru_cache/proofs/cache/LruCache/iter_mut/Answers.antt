use Rattle.std.proofs.Common.{refl}
use Rattle.lru_cache.proofs.cache.LruCache.iter_mut.Goals as goal

pub returns : goal.returns
returns g c =
    let m = c.iter_mut.ensures in let v = c.self.invariant in
    rw (← c.self.view_is) (
      refl,
      record {
        writes_back = tt;
        keeps = m.keeps;
        rest = m.rest;
        valid = record { distinct = v.valid.distinct; within = v.within; within_room = v.valid.within; room_limit = v.valid.limit };
        runs = m.runs;
        runs_back = m.runs_back;
      },
    )
