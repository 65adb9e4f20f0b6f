use Rattle.linked_hash_map.proofs.Callers.Prelude.{rules, IsValid-set_or_pushed, present_own}
use Rattle.uses.proofs.refusal.insert_if_new.Goals as goal

pub returns-clause-stays_valid : goal.returns-clause-stays_valid
returns-clause-stays_valid g c = let o = c.in_ok-or_insert in let is = IsValid-set_or_pushed
    g.met.K.Eq.laws c.entry.result o.field-0.now o.ensures.valid o.ensures.limit in search rules

pub returns-clause-present : goal.returns-clause-present
returns-clause-present g c = search (rules, g.met.K.Eq.laws, present_own)
