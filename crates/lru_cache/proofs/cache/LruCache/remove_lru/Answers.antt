use Rattle.lru_cache.proofs.Insertions.{SameOrNone-without_first}
use Rattle.lru_cache.proofs.cache.LruCache.remove_lru.Goals as goal

pub returns-clause-finds : goal.returns-clause-finds
returns-clause-finds g c = rw (← c.self.view_is) (SameOrNone-without_first g.met.K.Eq.laws c.self.inside.map.pairs
    c.pop_front.new.self.pairs c.pop_front.ensures.pairs c.pop_front.ensures.valid.distinct)
