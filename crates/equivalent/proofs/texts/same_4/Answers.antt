use Rattle.std.proofs.Common.{rules}
use Rattle.std.specs.Int.{from_le_bytes, to_le_bytes, w32}
use Rattle.std.proofs.lemmas.Nat.{le_bytes_4}
use Rattle.equivalent.proofs.Bytes.{eq-numbers}
use Rattle.equivalent.proofs.texts.same_4.Goals as goal

pub returns : goal.returns
returns c =
    eq-numbers (from_le_bytes w32) (to_le_bytes w32) c.args.a.now c.args.b.now _ _ c.number_of_4.ensures c.number_of_4-2.ensures
    (le_bytes_4 c.args.a.now _ c.requires.first (search rules) c.number_of_4.ensures)
    (le_bytes_4 c.args.b.now _ c.requires.second (search rules) c.number_of_4-2.ensures)
