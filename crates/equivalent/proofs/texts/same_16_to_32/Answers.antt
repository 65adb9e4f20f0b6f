use Rattle.std.proofs.Common.{◌-◌, ◌∙◌, arith, length, sym}
use Rattle.std.proofs.lemmas.List.{length-take-le}
use Rattle.equivalent.proofs.Bytes.{and-parts}
use Rattle.equivalent.proofs.texts.same_16_to_32.Goals as goal

pub same_8_to_16-requires-clause-same_length : goal.same_8_to_16-requires-clause-same_length
same_8_to_16-requires-clause-same_length c =
    length-take-le 16 c.args.a.now c.requires.least
    ∙ sym (length-take-le 16 c.args.b.now (omega (arith, c.requires.least, c.requires.same_length)))

pub returns : goal.returns
returns c =
    and-parts 16 (length c.args.a.now - 16) c.args.a.now c.args.b.now _ _ (omega (arith, c.requires.most))
    c.same_8_to_16.ensures c.same_8_to_16-2.ensures
