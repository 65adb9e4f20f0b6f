use Rattle.std.proofs.Common.{rules}
use Rattle.std.specs.Int.{from_le_bytes, to_le_bytes, w64}
use Rattle.std.proofs.lemmas.Nat.{le_bytes_8}
use Rattle.equivalent.proofs.Bytes.{eq-numbers}
use Rattle.equivalent.proofs.texts.same_8.Goals as goal

pub returns : goal.returns
returns c =
    eq-numbers (from_le_bytes w64) (to_le_bytes w64) c.args.a.now c.args.b.now _ _ c.number_of_8.ensures c.number_of_8-2.ensures
    (le_bytes_8 c.args.a.now _ c.requires.first (search rules) c.number_of_8.ensures)
    (le_bytes_8 c.args.b.now _ c.requires.second (search rules) c.number_of_8-2.ensures)
