use Rattle.lhm_ring.proofs.Names.{refl}
use Rattle.lhm_ring.proofs.rings.Ends.{First-first_at, first_held, length-removed, none-first_at}
use Rattle.lhm_ring.proofs.ring.Ring.drop.Goals as goal

pub unlink-key-requires : goal.unlink-key-requires
unlink-key-requires g c = first_held (First-first_at c.held.self.held c.in-Some.ensures refl)

pub held-smaller : goal.held-smaller
held-smaller g c =
    let h = first_held (First-first_at c.held.self.held c.in-Some.ensures refl) in
    let u = c.unlink-key.ensures.others h.before h.node h.after h.is h.at_is in
    length-removed c.held.self.held c.unlink-key.new.self.held h.before h.node h.after h.is u

pub destroy_empty-requires : goal.destroy_empty-requires
destroy_empty-requires g c = none-first_at c.held.self.held c.in_default.ensures
