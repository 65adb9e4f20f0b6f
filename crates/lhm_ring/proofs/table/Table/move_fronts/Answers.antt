use Rattle.lhm_ring.proofs.tables.{Rotated.IsSome-front, Rotated.rotated-more, Rotated.rotated-none, Tables.KeepsCounts-trans}
use Rattle.lhm_ring.proofs.{Names.ap, Names.arith, Names.pointer_of_some, Names.refl, rings.Ends.First-first_at, rings.Ends.first_held}
use Rattle.lhm_ring.proofs.table.Table.move_fronts.Goals as goal

pub loop-moved-init : goal.loop-moved-init
loop-moved-init g c = record {
  rotated = rotated-none c.args.self.now.held;
  keeps = record { capacity = refl; rechained = refl; made = refl };
}

pub unwrap-front-requires : goal.unwrap-front-requires
unwrap-front-requires g c =
    IsSome-front c.args.self.now.held (omega (arith, c.loop-moved-test.true, c.requires)) c.loop-moved.invariant.rotated c.first.result
    c.first.ensures

pub move_to_back-requires : goal.move_to_back-requires
move_to_back-requires g c = first_held (First-first_at c.loop-moved.self.held c.first.ensures (ap pointer_of_some c.unwrap-front.ensures))

pub loop-moved-preserved : goal.loop-moved-preserved
loop-moved-preserved g c =
    let inv = c.loop-moved.invariant in let moved = c.move_to_back.ensures in record {
      rotated = rotated-more c.args.self.now.held (omega (arith, c.loop-moved-test.true, c.requires)) inv.rotated c.first.result
          c.first.ensures c.unwrap-front.ensures moved.held;
      keeps = KeepsCounts-trans inv.keeps moved.keeps;
    }
