use Rattle.linked_hash_map.proofs.Callers.Extended.{Merges-InsertsAll}
use Rattle.uses.proofs.collecting.merge.Goals as goal

pub returns : goal.returns
returns g c = let is = Merges-InsertsAll g.met.K.Eq.laws c.args.others.pairs
    c.in_ok-extend.ensures.all (λ it m. (m.0, m.1.distinct)) in assumption
