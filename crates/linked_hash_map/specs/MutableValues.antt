-- What a contract sees of an iterator over mutable references to the values.
use Rattle.std.specs.Prelude.{List, [], Option}
use Rattle.std.specs.Borrow.{GName, MutBor}
use Rattle.std.specs.Map.{values_of}
use Rattle.std.specs.Map.Iter.{TakesFirst, TakesLast}
use mathlib.Core.Option as maybe
use Rattle.linked_hash_map.specs.Nodes.{pairs_of}
use Rattle.linked_hash_map.specs.declared.iter.values_mut.ValuesMut.{ValuesMut}
use Rattle.linked_hash_map.specs.declared.iter.values_mut.ValuesMut.TheVariants.{Empty, Lent}

module _ {K V : Type 0} where
  -- the values that are still to come
  abbrev pub values_left : ValuesMut K V → List V
  values_left (Empty e) = []
  values_left (Lent l) = values_of (pairs_of l.nodes.0)

  -- the name of their loan
  abbrev pub values_loan : ValuesMut K V → maybe.Option GName
  values_loan (Empty e) = maybe.some e.ghost_name
  values_loan (Lent l) = maybe.some l.nodes.1

  -- a step lends the first of the values that are still to come, or the last
  abbrev pub LendsFirstValue : ValuesMut K V → Option (MutBor V) → ValuesMut K V → Type 0
  LendsFirstValue s r t = TakesFirst (λ v. v.now) (values_left s) r (values_left t)

  abbrev pub LendsLastValue : ValuesMut K V → Option (MutBor V) → ValuesMut K V → Type 0
  LendsLastValue s r t = TakesLast (λ v. v.now) (values_left s) r (values_left t)
