use Rattle.lhm_ring.proofs.Names.{arith, length, sym, ◌+◌, ◌∙◌}
use Rattle.lhm_ring.proofs.rings.{Insides.IsWhole-raised, Insides.counts-seen, Insides.counts-within, NodesGrown.nodes_grown-enough}
use Rattle.lhm_ring.proofs.ring.Ring.grow_within.Goals as goal

pub overflow_sub-min : goal.overflow_sub-min
overflow_sub-min g c =
    let within = counts-within c.self.inside c.self.invariant in let least = c.min.ensures in omega arith

pub overflow_sub-min-2 : goal.overflow_sub-min-2
overflow_sub-min-2 g c =
    let within = counts-within c.self.inside c.self.invariant in let least = c.min.ensures in omega arith

pub invariant_of-self : goal.invariant_of-self
invariant_of-self g c =
    let within = counts-within c.self.inside c.self.invariant in let least = c.min.ensures in
    let few = c.if-count-min.true in
    IsWhole-raised c.self.inside c.self.invariant c.args.count (omega arith)

pub returns-then-count-min-clause-nodes : goal.returns-then-count-min-clause-nodes
returns-then-count-min-clause-nodes g c =
    let within = counts-within c.self.inside c.self.invariant in let least = c.min.ensures in
    let few = c.if-count-min.true in
    let old = c.args.self.now in let seen = counts-seen c.self.inside c.self.invariant c.self.view_is in
    seen.nodes
    ∙ sym (nodes_grown-enough old.nodes (length old.held + old.spares + c.args.count) _ (omega arith))

pub grow_by-requires-clause-missing : goal.grow_by-requires-clause-missing
grow_by-requires-clause-missing g c =
    let within = counts-within c.self.inside c.self.invariant in let least = c.min.ensures in
    let few = c.if-count-min.false in
    let seen = counts-seen c.self.inside c.self.invariant c.self.view_is in omega arith
