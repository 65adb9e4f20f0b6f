use Rattle.lhm_ring.proofs.Names.{ap, arith, pointer_of_some, refl}
use Rattle.lhm_ring.proofs.tables.Reversed.{IsHeld-next, IsReversing-more, IsReversing-start, reversed-all}
use Rattle.lhm_ring.proofs.tables.{Positions.IsSome-place, Tables.KeepsCounts-trans}
use Rattle.lhm_ring.proofs.table.Table.reverse.Goals as goal

pub loop-moved-init : goal.loop-moved-init
loop-moved-init g c = record {
  reversing = IsReversing-start c.args.self.now.held c.first-next.ensures;
  keeps = record { capacity = refl; rechained = refl; made = refl };
}

pub unwrap-at-requires : goal.unwrap-at-requires
unwrap-at-requires g c = IsSome-place c.args.self.now.held c.loop-moved.next _
    (omega (arith, c.loop-moved-test.true, c.len-len.ensures.value)) c.loop-moved.invariant.reversing.at_is

pub next-next-requires : goal.next-next-requires
next-next-requires g c = IsHeld-next c.args.self.now.held c.loop-moved.invariant.reversing (ap pointer_of_some c.unwrap-at.ensures)

pub move_to_front-requires : goal.move_to_front-requires
move_to_front-requires g c = IsHeld-next c.args.self.now.held c.loop-moved.invariant.reversing (ap pointer_of_some c.unwrap-at.ensures)

pub loop-moved-preserved : goal.loop-moved-preserved
loop-moved-preserved g c =
    let inv = c.loop-moved.invariant in let moved = c.move_to_front.ensures in record {
      reversing = IsReversing-more c.args.self.now.held inv.reversing (ap pointer_of_some c.unwrap-at.ensures) moved.held
          c.next-next.ensures.next;
      keeps = KeepsCounts-trans inv.keeps moved.keeps;
    }

pub returns-clause-reversed : goal.returns-clause-reversed
returns-clause-reversed g c = reversed-all c.args.self.now.held c.loop-moved.invariant.reversing
    (omega (arith, c.loop-moved-test.false, c.len-len.ensures.value))
