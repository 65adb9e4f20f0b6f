use Rattle.std.proofs.Common.{refl}
use Rattle.lru_cache.proofs.Kept.{IsValidCache-as_many}
use Rattle.lru_cache.proofs.cache.LruCache.get_mut.Goals as goal

pub returns-in-Some : goal.returns-in-Some
returns-in-Some g c =
    let m = c.in-Some.ensures in let v = c.self.invariant in
    rw (← c.self.view_is) (
      refl,
      record {
        writes_back = tt;
        value = m.value;
        valid = record { distinct = v.valid.distinct; within = v.within; within_room = v.valid.within; room_limit = v.valid.limit };
        updates = m.updates;
        last = m.back;
        as_many = m.as_many;
        stays_valid = λ w. IsValidCache-as_many g.K.PartialEq.eq _ c.self.inside.map.pairs c.self.inside.limit (m.stays_valid w)
            (m.as_many w) v.within;
      },
    )
