use Rattle.std.proofs.Common.{rules, inr}
use Rattle.lru_cache.specs.Cache.{IsValidCache}
use Rattle.lru_cache.proofs.Insertions.{value_at-inserted, SameOrNone-inserted, Updates-inserted}
use Rattle.lru_cache.proofs.cache.LruCache.put.Goals as goal

pub returns-in-Some-clause-others : goal.returns-in-Some-clause-others
returns-in-Some-clause-others g c =
    rw (← c.self.view_is) (λ q apart. inr ((c.in-Some.ensures.updates c.replace.new.dest).others q apart))

pub returns-in-Ok-clause-here : goal.returns-in-Ok-clause-here
returns-in-Ok-clause-here g c some = value_at-inserted g.met.K.Eq.laws c.args.self.now.limit c.args.self.now.pairs
    c.insert_or_replace.new.self.pairs c.args.key c.args.value (search rules) some

pub returns-in-Ok-clause-others : goal.returns-in-Ok-clause-others
returns-in-Ok-clause-others g c =
    let valid : IsValidCache g.K.PartialEq.eq c.args.self.now = search rules in
    SameOrNone-inserted g.met.K.Eq.laws c.args.self.now.limit c.args.self.now.pairs c.insert_or_replace.new.self.pairs
    c.args.key c.args.value (search rules) valid.distinct

pub returns-in-Ok-clause-updates : goal.returns-in-Ok-clause-updates
returns-in-Ok-clause-updates g c =
    let valid : IsValidCache g.K.PartialEq.eq c.args.self.now = search rules in
    Updates-inserted g.met.K.Eq.laws c.args.self.now.limit c.args.self.now.pairs c.insert_or_replace.new.self.pairs
    c.args.key c.args.value (search rules) valid.distinct valid.within
