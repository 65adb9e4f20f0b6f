use Rattle.lhm_ring.proofs.{Names.length, Names.◌+◌, Names.◌∙◌, lists.Results.OnOk-then, rings.NodesGrown.nodes_grown-exact}
use Rattle.lhm_ring.proofs.ring.Ring.grow.Goals as goal

pub returns-clause-nodes : goal.returns-clause-nodes
returns-clause-nodes g c =
    let old = c.args.self.now in let count = c.args.count in
    OnOk-then c.grow_within.result c.grow_within.ensures.nodes
    (λ e. e ∙ nodes_grown-exact old.nodes (length old.held + old.spares + count) count)
