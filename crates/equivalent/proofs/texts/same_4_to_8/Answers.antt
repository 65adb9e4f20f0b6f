use Rattle.std.proofs.Common.{◌-◌, arith, length}
use Rattle.equivalent.proofs.Bytes.{and-parts}
use Rattle.equivalent.proofs.texts.same_4_to_8.Goals as goal

pub returns : goal.returns
returns c =
    and-parts 4 (length c.args.a.now - 4) c.args.a.now c.args.b.now _ _ (omega (arith, c.requires.most))
    c.same_4.ensures c.same_4-2.ensures
