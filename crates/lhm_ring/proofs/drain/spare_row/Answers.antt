use Rattle.lhm_ring.proofs.Names.{HasRow, Some, SparesRow, arith, is_block, subst, sym, true, ◌-◌, ◌∙◌, ◌≡◌}
use Rattle.lhm_ring.proofs.rings.SpareRows.{HasRow-next, SparesRow-done, SparesRow-step, is_there-row}
use Rattle.lhm_ring.proofs.rings.{Lookup.AllByRecursion-at, Writes.IsAt-there}
use Rattle.lhm_ring.proofs.drain.spare_row.Goals as goal

pub links-requires : goal.links-requires
links-requires g c = IsAt-there _ _ (is_there-row c.row-test.true c.row.invariant.row)

pub set_chain-requires : goal.set_chain-requires
set_chain-requires g c = IsAt-there _ _ (is_there-row c.row-test.true c.row.invariant.row)

pub to-spare-requires : goal.to-spare-requires
to-spare-requires g c =
    AllByRecursion-at (λ q. is_block q ≡ true) c.row.nodes.cells c.row.at.ptr _ c.row.nodes.blocks c.links.ensures

pub row-preserved : goal.row-preserved
row-preserved g c =
    let e = c.links.ensures in let w = c.set_chain.ensures.written _ e in
    let next = c.address-next.result.ptr in let zs = c.set_chain.new.nodes.cells in
    record {
      row = subst (λ o. HasRow zs next (c.row.left - 1) o) (sym c.to-spare.ensures)
          (subst (λ zs. HasRow zs next (c.row.left - 1) (Some c.row.at.ptr)) (sym w)
          (HasRow-next c.row.nodes.cells c.row.at.ptr c.row.spare e c.address-next.ensures
          c.row-test.true c.row.invariant.row));
      ends = λ ds s h. c.row.invariant.ends ds s
          (SparesRow-step c.row.nodes.cells c.row.at.ptr c.row.spare e c.address-next.ensures c.row-test.true ds s
          (subst (λ zs. SparesRow zs next (c.row.left - 1) (Some c.row.at.ptr) ds s) w
          (subst (λ o. SparesRow zs next (c.row.left - 1) o ds s) c.to-spare.ensures h)));
      unused = c.set_chain.ensures.land.0 ∙ c.row.invariant.unused;
      chunks = c.set_chain.ensures.land.1 ∙ c.row.invariant.chunks;
    }

pub returns-clause-spared : goal.returns-clause-spared
returns-clause-spared g c = c.row.invariant.ends _ _ (SparesRow-done c.row.nodes.cells c.row.at.ptr _ (omega arith))
