use Rattle.lhm_ring.proofs.Names.{ap, contents, triples, ◌∙◌}
use Rattle.lhm_ring.proofs.rings.Splicing.{HasRow-ring, IsOwned-spliced, IsSpan-spliced, contents-joined, spared}
use Rattle.lhm_ring.proofs.rings.{Contents.pointers_of, RingCells.IsJoined-same, RingCells.is_there-nowhere, RingCells.led_to-none}
use Rattle.lhm_ring.proofs.drain.splice.Goals as goal

pub spare_row-spare-requires : goal.spare_row-spare-requires
spare_row-spare-requires g c = let a = c.args in HasRow-ring a.ends.now a.nodes.now.cells c.requires.1.1 c.address-first.ensures

pub join-requires : goal.join-requires
join-requires g c =
    let e = c.args.ends.now in let zs = c.spare_row-spare.new.nodes.cells in (
      is_there-nowhere e zs c.none.result.ptr c.none.ensures,
      is_there-nowhere e zs c.none-2.result.ptr c.none-2.ensures,
    )

pub returns-clause-spliced : goal.returns-clause-spliced
returns-clause-spliced g c ps m ok =
    let a = c.args in let j = IsJoined-same (led_to-none c.none.result.ptr c.none.ensures)
    (led_to-none c.none-2.result.ptr c.none-2.ensures) c.join.ensures.joined in
    IsOwned-spliced a.ends.now a.nodes.now.cells ok c.address-first.ensures
    c.spare_row-spare.new.nodes.cells c.spare_row-spare.result c.spare_row-spare.ensures.spared j

pub returns-clause-row : goal.returns-clause-row
unfolding contents
returns-clause-row g c m ok =
    let e = c.args.ends.now in let cs = c.args.nodes.now.cells in let zs = c.spare_row-spare.new.nodes in let fs = c.join.new.nodes in
    let s = c.spare_row-spare.ensures.spared in let h = c.spare_row-spare.result in
    let j = IsJoined-same (led_to-none c.none.result.ptr c.none.ensures) (led_to-none c.none-2.result.ptr c.none-2.ensures)
    c.join.ensures.joined in let all = contents-joined zs fs j in
    let kept = (spared e cs ok c.address-first.ensures zs.cells h s).0 in (
      IsSpan-spliced e cs ok c.address-first.ensures zs.cells h s fs.cells j (contents fs.cells) (ap pointers_of all ∙ kept.order)
          c.address-last.ensures,
      ap triples all ∙ kept.held,
    )

pub returns-clause-land : goal.returns-clause-land
returns-clause-land g c = (
  c.join.ensures.land.0 ∙ c.spare_row-spare.ensures.land.0,
  c.join.ensures.land.1
      ∙ c.spare_row-spare.ensures.land.1,
)
