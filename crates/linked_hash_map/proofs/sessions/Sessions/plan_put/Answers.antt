use Rattle.linked_hash_map.proofs.{Names.ap, Names.arith, Names.unwrap_or, Names.◌∙◌, session_table.Pairs.total_weight-others}
use Rattle.linked_hash_map.proofs.sessions.Sessions.plan_put.Goals as goal

pub overflow_sub-others : goal.overflow_sub-others
overflow_sub-others g c =
    let weight = c.unwrap_or.ensures ∙ ap (λ o. unwrap_or o 0) c.weight_at-replaced.ensures in
    omega (arith, total_weight-others c.self.invariant c.args.id, weight)

pub find_leaving-leaving-requires : goal.find_leaving-leaving-requires
find_leaving-leaving-requires g c =
    let weight = c.unwrap_or.ensures ∙ ap (λ o. unwrap_or o 0) c.weight_at-replaced.ensures in
    omega (arith, total_weight-others c.self.invariant c.args.id, weight)
