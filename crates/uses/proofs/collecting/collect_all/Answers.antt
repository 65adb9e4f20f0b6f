use Rattle.linked_hash_map.proofs.Callers.Extended.{Collects_distinct_vec}
use Rattle.uses.proofs.collecting.collect_all.Goals as goal

pub returns : goal.returns
returns g c = let made = Collects_distinct_vec g.met.K.Eq.laws c.args.list c.in_ok-map.ensures.all
    (λ it m. (m.0, m.1)) c.requires.differ in assumption
