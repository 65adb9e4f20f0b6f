use Rattle.lhm_ring.proofs.Names.{ap, arith, length, pointer_of_some, refl, ◌+◌, ◌-◌, ◌∙◌}
use Rattle.lhm_ring.proofs.tables.Rotated.{IsSome-back, rotated, rotated-all, rotated-fewer}
use Rattle.lhm_ring.proofs.{rings.Ends.Last-last_at, rings.Ends.last_held, tables.Tables.KeepsCounts-trans}
use Rattle.lhm_ring.proofs.table.Table.move_backs.Goals as goal

pub loop-moved-init : goal.loop-moved-init
loop-moved-init g c = let hs = c.args.self.now.held in record {
  rotated = rotated-all hs ∙ ap (λ n. rotated n hs) (omega arith);
  keeps = record { capacity = refl; rechained = refl; made = refl };
}

pub unwrap-back-requires : goal.unwrap-back-requires
unwrap-back-requires g c =
    let hs = c.args.self.now.held in let more = c.loop-moved-test.true in
    IsSome-back {n = length hs - (c.loop-moved._moved + 1)} hs (omega (arith, more, c.requires)) (omega (arith, more, c.requires))
    c.loop-moved.invariant.rotated c.last.result c.last.ensures.last

pub move_to_front-requires : goal.move_to_front-requires
move_to_front-requires g c = last_held (Last-last_at c.loop-moved.self.held c.last.ensures.last (ap pointer_of_some c.unwrap-back.ensures))

pub loop-moved-preserved : goal.loop-moved-preserved
loop-moved-preserved g c =
    let hs = c.args.self.now.held in let more = c.loop-moved-test.true in
    let inv = c.loop-moved.invariant in let moved = c.move_to_front.ensures in record {
      rotated = rotated-fewer hs (omega (arith, more, c.requires)) (omega (arith, more, c.requires)) inv.rotated
          c.last.result c.last.ensures.last c.unwrap-back.ensures moved.held;
      keeps = KeepsCounts-trans inv.keeps moved.keeps;
    }
