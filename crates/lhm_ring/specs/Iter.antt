-- What an iterator has left, and what its steps return.
use Rattle.std.specs.Prelude.{◌≡◌, ℕ, List, [], ◌∷◌, ◌++◌, map, Option, Some, None}
use Rattle.std.specs.Borrow.{Bor, MutBor, GName}
use base.Fml.{GName}
use denote.RawPtr.{Ptr}
use Rattle.lhm_ring.specs.declared.pointer.NodePointer.{NodePointer}
use mathlib.Core.Option as core
use Rattle.lhm_ring.specs.declared.iter_mut.TriplesMut.{TriplesMut}
use Rattle.lhm_ring.specs.declared.iter_mut.TriplesMut.TheVariants.{Empty, Lent}
use Rattle.lhm_ring.specs.declared.iter_mut.LentValues.{LentValues}
use Rattle.lhm_ring.specs.ValueLoan.{AreLent}
use Rattle.lhm_ring.specs.Ring.{Held, held}

-- what a mutable iterator has left
abbrev pub rest_of : {B : Type 0} → List (Held B) × GName → List (Held B)
rest_of s = s.0

module _ {K V : Type 0} where
  -- what a step from the front returns, and what it leaves
  abbrev pub IsFirstStep : List (Held (K × V)) → Option (NodePointer × ℕ × Bor K × Bor V)
      → List (Held (K × V)) → Type 0
  IsFirstStep s None t = (s ≡ []) × (t ≡ [])
  IsFirstStep s (Some r) t = (l : Option Ptr) × (s ≡ held r.0.ptr r.1 l (r.2.now, r.3.now) ∷ t)

  abbrev pub IsLastStep : List (Held (K × V)) → Option (NodePointer × ℕ × Bor K × Bor V)
      → List (Held (K × V)) → Type 0
  IsLastStep s None t = (s ≡ []) × (t ≡ [])
  IsLastStep s (Some r) t = (l : Option Ptr) × (s ≡ t ++ held r.0.ptr r.1 l (r.2.now, r.3.now) ∷ [])

  -- the same of pairs with a reference R to the value, of whatever kind
  module _ {R : Type 0} (value : R → V) where
    abbrev FirstStep : List (Held (K × V)) → Option (ℕ × Bor K × R) → List (Held (K × V)) → Type 0
    FirstStep s None t = (s ≡ []) × (t ≡ [])
    FirstStep s (Some r) t = record {
      at : Ptr;
      link : Option Ptr;
      is : s ≡ held at r.0 link (r.1.now, value r.2) ∷ t;
    }

    abbrev LastStep : List (Held (K × V)) → Option (ℕ × Bor K × R) → List (Held (K × V)) → Type 0
    LastStep s None t = (s ≡ []) × (t ≡ [])
    LastStep s (Some r) t = record {
      at : Ptr;
      link : Option Ptr;
      is : s ≡ t ++ held at r.0 link (r.1.now, value r.2) ∷ [];
    }

  -- with a mutable reference
  abbrev pub LendsFirstStep : List (Held (K × V)) → Option (ℕ × Bor K × MutBor V)
      → List (Held (K × V)) → Type 0
  LendsFirstStep = FirstStep (λ v. v.now)

  abbrev pub LendsLastStep : List (Held (K × V)) → Option (ℕ × Bor K × MutBor V)
      → List (Held (K × V)) → Type 0
  LendsLastStep = LastStep (λ v. v.now)

  -- with a shared reference
  abbrev pub ShowsFirstStep : List (Held (K × V)) → Option (ℕ × Bor K × Bor V) → List (Held (K × V))
      → Type 0
  ShowsFirstStep = FirstStep (λ v. v.now)

  abbrev pub ShowsLastStep : List (Held (K × V)) → Option (ℕ × Bor K × Bor V) → List (Held (K × V))
      → Type 0
  ShowsLastStep = LastStep (λ v. v.now)

module _ {K V : Type 0} where
  -- the triples that are still to come
  abbrev pub held_left : TriplesMut K V → List (Held (K × V))
  held_left (Empty e) = []
  held_left (Lent l) = l.0

  -- their pairs
  abbrev pub pairs_left : TriplesMut K V → List (K × V)
  pairs_left i = map (λ t. t.pair) (held_left i)

  -- the name of the loan of the values
  abbrev pub loan_name : TriplesMut K V → core.Option GName
  loan_name (Empty e) = core.some e.ghost_name
  loan_name (Lent l) = core.some l.1

module _ {K V : Type 0} where
  -- what the ring holds
  abbrev pub lent_held : LentValues K V → List (Held (K × V))
  lent_held l = l.ring.now.held

  -- the name of the loan
  abbrev pub lent_name : LentValues K V → core.Option GName
  lent_name l = core.some l.loan.tie

  -- the loan is of the values of all that the ring holds
  abbrev pub IsLent : LentValues K V → Type 0
  IsLent l = AreLent l.loan.run (lent_held l)
