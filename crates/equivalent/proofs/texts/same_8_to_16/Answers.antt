use Rattle.std.proofs.Common.{◌-◌, arith, length}
use Rattle.equivalent.proofs.Bytes.{and-parts}
use Rattle.equivalent.proofs.texts.same_8_to_16.Goals as goal

pub returns : goal.returns
returns c =
    and-parts 8 (length c.args.a.now - 8) c.args.a.now c.args.b.now _ _ (omega (arith, c.requires.most))
    c.same_8.ensures c.same_8-2.ensures
