use Rattle.lhm_ring.proofs.Names.{[], ap, pointer_of_some, sym, ◌∙◌}
use Rattle.lhm_ring.proofs.rings.Ends.{First-first_at, first_held, triples-first}
use Rattle.lhm_ring.proofs.owned.IntoIter.take_first.Goals as goal

pub unlink-requires : goal.unlink-requires
unlink-requires g c = first_held (First-first_at c.self.inside.ring.held c.first.ensures (ap pointer_of_some c.in_ok-at.was))

pub returns : goal.returns
returns g c =
    let n = First-first_at c.self.inside.ring.held c.first.ensures (ap pointer_of_some c.in_ok-at.was) in
    sym c.self.view_is ∙ triples-first n c.unlink.new.self.held c.unlink.result
    (c.unlink.ensures.others [] n.node n.after n.is n.at_is)
    (c.unlink.ensures.triple [] n.node n.after n.is n.at_is)
