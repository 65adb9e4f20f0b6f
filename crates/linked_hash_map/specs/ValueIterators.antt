-- What a contract sees of an iterator that lends the values.
use Rattle.std.specs.Prelude.{List, []}
use Rattle.std.specs.Borrow.{GName}
use mathlib.Core.Option.{Option, some}
use Rattle.linked_hash_map.specs.Nodes.{pairs_of}
use Rattle.linked_hash_map.specs.declared.iter.iter_mut.IterMut.{IterMut}
use Rattle.linked_hash_map.specs.declared.iter.iter_mut.IterMut.TheVariants.{Empty, Lent}

module _ {K V : Type 0} where
  -- the pairs that are still to come
  abbrev pub pairs_left : IterMut K V → List (K × V)
  pairs_left (Empty e) = []
  pairs_left (Lent l) = pairs_of l.nodes.0

  -- the name of the loan of the values
  abbrev pub loan_name : IterMut K V → Option GName
  loan_name (Empty e) = some e.ghost_name
  loan_name (Lent l) = some l.nodes.1
