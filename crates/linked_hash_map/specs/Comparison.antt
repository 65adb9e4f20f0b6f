-- Pairs compared and hashed, key before value.
use Rattle.std.specs.Prelude.{Bool, ◌&&◌, ◌++◌, List, Option}
use Rattle.std.specs.Cmp.Lexicographic.{slice_cmp, slice_partial_cmp}
use Rattle.std.specs.declared.cmp.Ordering.{Ordering}
use Rattle.std.specs.Ordering.{ordering_then, partial_ordering_then}
use Rattle.std.specs.Hash.{HashWrites}

-- the lexicographic order of two lists, given that of their elements, and the same if there may
-- be no order
module _ {X : Type 0} where
  abbrev pub lexicographic : (X → X → Ordering) → List X → List X → Ordering
  lexicographic order xs ys = slice_cmp order xs ys

  abbrev pub partial_lexicographic : (X → X → Option Ordering) → List X → List X → Option Ordering
  partial_lexicographic order xs ys = slice_partial_cmp order xs ys

module _ {K V : Type 0} where
  -- the keys are equal, and the values
  abbrev pub same_pair : (K → K → Bool) → (V → V → Bool) → K × V → K × V → Bool
  same_pair key value p q = key p.0 q.0 && value p.1 q.1

  -- the order of the keys, or that of the values if these are equal
  abbrev pub pair_order : (K → K → Ordering) → (V → V → Ordering) → K × V → K × V → Ordering
  pair_order key value p q = ordering_then (key p.0 q.0) (value p.1 q.1)

  -- the same, if there may be no order
  abbrev pub partial_pair_order : (K → K → Option Ordering) → (V → V → Option Ordering) → K × V
      → K × V → Option Ordering
  partial_pair_order key value p q = partial_ordering_then (key p.0 q.0) (value p.1 q.1)

  -- what the key writes to a hasher, and then the value
  abbrev pub pair_writes : (K → HashWrites) → (V → HashWrites) → K × V → HashWrites
  pair_writes key value pair = key pair.0 ++ value pair.1
