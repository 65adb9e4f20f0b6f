use Rattle.lru_cache.proofs.Insertions.{SameOrNone-inserted, Updates-inserted}
use Rattle.lru_cache.proofs.cache.LruCache.insert.Goals as goal

pub returns-in-Ok-clause-updates : goal.returns-in-Ok-clause-updates
returns-in-Ok-clause-updates g c = Updates-inserted g.met.K.Eq.laws c.args.self.now.limit c.args.self.now.pairs
    c.insert_or_replace.new.self.pairs c.args.key c.args.value c.in-Ok.ensures.pairs c.in-Ok.ensures.valid.distinct
    c.in-Ok.ensures.valid.within

pub returns-in-Ok-clause-others : goal.returns-in-Ok-clause-others
returns-in-Ok-clause-others g c = SameOrNone-inserted g.met.K.Eq.laws c.args.self.now.limit c.args.self.now.pairs
    c.insert_or_replace.new.self.pairs c.args.key c.args.value c.in-Ok.ensures.pairs c.in-Ok.ensures.valid.distinct
