use Rattle.lhm_ring.proofs.Names.{[], ap, append_assoc, arith, length, refl, sym, triples, ℕ, ◌++◌, ◌∙◌, ◌∷◌}
use Rattle.lhm_ring.proofs.rings.Ends.{First-first_at, first_held, length-removed, triples-first, triples-pushed}
use Rattle.lhm_ring.proofs.resize.move_all.Goals as goal

pub unlink-hash-requires : goal.unlink-hash-requires
unlink-hash-requires g c = first_held (First-first_at c.each.from.held c.in-Some.ensures refl)

pub each-smaller : goal.each-smaller
each-smaller g c =
    let h = first_held (First-first_at c.each.from.held c.in-Some.ensures refl) in
    length-removed c.each.from.held c.unlink-hash.new.self.held h.before h.node h.after h.is
    (c.unlink-hash.ensures.others h.before h.node h.after h.is h.at_is)

pub each-preserved : goal.each-preserved
each-preserved g c =
    let n = First-first_at c.each.from.held c.in-Some.ensures refl in
    let left = c.unlink-hash.ensures.others [] n.node n.after n.is n.at_is in
    let cut = triples-first n c.unlink-hash.new.self.held c.unlink-hash.result left
    (c.unlink-hash.ensures.triple [] n.node n.after n.is n.at_is) in
    let taken : ℕ × (g.row.K.Denot × g.row.V.Denot) = (c.unlink-hash.result.0, (c.unlink-hash.result.1, c.unlink-hash.result.2)) in
    let before = ap length n.is in let after = ap length left in
    record {
      all = ap (λ xs. xs ++ triples c.unlink-hash.new.self.held)
          (triples-pushed c.put_back.new.self.held c.each.to.held _ c.put_back.ensures.last)
          ∙ append_assoc (triples c.each.to.held) (taken ∷ []) (triples c.unlink-hash.new.self.held)
          ∙ ap (λ ys. triples c.each.to.held ++ ys) (sym cut) ∙ c.each.invariant.all;
      room = omega (arith, c.put_back.ensures.spares, c.each.invariant.room, before, after, c.requires);
      nodes = c.put_back.ensures.nodes ∙ c.each.invariant.nodes;
    }
