use Rattle.lru_cache.proofs.Kept.{IsClone-kept}
use Rattle.lru_cache.proofs.cache.clone.LruCacheClone.clone.Goals as goal

pub returns : goal.returns
returns g c = record {
  cases = rw (← c.self.view_is) (IsClone-kept g.K.PartialEq.eq g.K.Clone.is_clone g.V.Clone.is_clone g.S.Clone.is_clone
      c.self.inside.map c.in_ok-clone.field-0 c.self.inside.limit c.in_ok-clone.ensures.cases c.self.invariant.within);
}
