use Rattle.lhm_ring.proofs.{Names.ap, Names.length, Names.◌∙◌, rings.Spans.length-span}
use Rattle.lhm_ring.proofs.iter.IterExactSizeIterator.len.Goals as goal

pub returns-clause-value : goal.returns-clause-value
returns-clause-value g c = length-span c.self.inside.nodes.now.apart c.self.invariant ∙ ap length c.self.view_is
