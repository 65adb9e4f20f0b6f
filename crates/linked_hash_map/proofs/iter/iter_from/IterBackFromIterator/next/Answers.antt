use Rattle.linked_hash_map.proofs.Names.{ap, arith, length, sym, ◌∙◌, pointer_of_some, pairs_back_from}
use Rattle.linked_hash_map.proofs.nodes.CutNodes.{held-at, pair-at}
use Rattle.linked_hash_map.proofs.nodes.NodesFrom.{IsAt-some, Lies-before, pairs_back_from-step}
use Rattle.linked_hash_map.proofs.iter.iter_from.IterBackFromIterator.next.Goals as goal

pub previous-self-inside-requires : goal.previous-self-inside-requires
previous-self-inside-requires g c = held-at _ _ (IsAt-some c.self.inside.table.now.held c.in-Some.is c.self.invariant)

pub key-requires : goal.key-requires
key-requires g c = held-at _ _ (IsAt-some c.self.inside.table.now.held c.in-Some.is c.self.invariant)

pub value-requires : goal.value-requires
value-requires g c = held-at _ _ (IsAt-some c.self.inside.table.now.held c.in-Some.is c.self.invariant)

pub invariant_of-self : goal.invariant_of-self
invariant_of-self g c =
    let hs = c.self.inside.table.now.held in let h = held-at hs _ (IsAt-some hs c.in-Some.is c.self.invariant) in
    Lies-before hs h.before h.node h.after h.is _ (c.previous-self-inside.ensures.previous h.before h.node h.after h.is h.at_is)

pub returns-in-Some-clause-steps : goal.returns-in-Some-clause-steps
returns-in-Some-clause-steps g c =
    let hs = c.self.inside.table.now.held in let at = IsAt-some hs c.in-Some.is c.self.invariant in
    let previous = c.previous-self-inside.ensures in
    sym c.self.view_is ∙ (λ i. pairs_back_from (pointer_of_some (c.in-Some.is i)) hs)
    ∙ pairs_back_from-step hs previous.apart _ at (pair-at hs _ at c.key.ensures c.value.ensures) previous.previous

pub returns-in-Some-clause-goes : goal.returns-in-Some-clause-goes
returns-in-Some-clause-goes g c =
    let fewer = ap length (returns-in-Some-clause-steps g c) in
    record {
      on = λ finite. (tt, tt, omega (arith, fewer));
      keeps = tt;
      rests = λ finite. tt;
    }
