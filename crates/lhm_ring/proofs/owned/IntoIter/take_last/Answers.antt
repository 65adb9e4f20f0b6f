use Rattle.lhm_ring.proofs.Names.{[], ap, pointer_of_some, sym, ◌∙◌}
use Rattle.lhm_ring.proofs.rings.Ends.{Last-last_at, last_held, triples-last}
use Rattle.lhm_ring.proofs.owned.IntoIter.take_last.Goals as goal

pub unlink-requires : goal.unlink-requires
unlink-requires g c = last_held (Last-last_at c.self.inside.ring.held c.last.ensures.last (ap pointer_of_some c.in_ok-at.was))

pub returns : goal.returns
returns g c =
    let n = Last-last_at c.self.inside.ring.held c.last.ensures.last (ap pointer_of_some c.in_ok-at.was) in
    sym c.self.view_is ∙ triples-last n c.unlink.new.self.held c.unlink.result
    (c.unlink.ensures.others n.before n.node [] n.is n.at_is)
    (c.unlink.ensures.triple n.before n.node [] n.is n.at_is)
