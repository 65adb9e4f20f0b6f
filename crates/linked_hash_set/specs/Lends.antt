-- What a set is once a borrow has ended.
use Rattle.std.specs.Prelude.{◌≡◌, [], ⊤, Result, MatchResult}
use Rattle.std.specs.Borrow.{Fml, GName, RattleType, MutBor, Array, u8, follows, follows_if, follows_so}
use mathlib.Core.Option.{none}
use Rattle.std.specs.HashMap.Lent.{HashMembers}
use Rattle.std.specs.declared.hash.Hasher as hasher
use Rattle.std.specs.declared.hash.BuildHasher as builder
use Rattle.linked_hash_set.specs.Inserts.{inserted}
use Rattle.linked_hash_set.specs.LinkedSet.{LinkedSet}
use Rattle.linked_hash_set.specs.contracts.set.LinkedHashSet.{the_row}

module _ (T S H : RattleType) (item : HashMembers T.Denot) (build : builder.Ghosts S.Denot H.Denot)
    (hash : hasher.Ghosts H.Denot) where
  -- the set's type, as the logic holds it
  abbrev pub set_row : RattleType
  set_row =
      the_row T S H (record { eq = item.eq }) (record { hash_input = item.hash_input }) build hash

  module _ (s : MutBor (LinkedSet T.Denot S.Denot)) where
    -- the set is empty once the borrow with this name, of no bytes, ends
    abbrev pub lends_drained : GName → Fml
    lends_drained name = follows set_row (Array u8 0) s.ghost_name name (λ _. record s.now { items = [] })

    -- the set is as Now says, and at an error it is as it was
    abbrev pub ends_so : {R E : Type 0} → (LinkedSet T.Denot S.Denot → Type 0) → Result R E → Fml
    ends_so Now r =
        follows_so set_row set_row s.ghost_name none (λ _ _. ⊤) (λ last.
        MatchResult r (λ _. Now last) (λ _. last ≡ s.now))

    -- the set has x at the back, as after an insertion, and at an error it is as it was
    abbrev pub ends_inserted : {R E : Type 0} → T.Denot → Result R E → Fml
    ends_inserted x = ends_so (λ last. last ≡ inserted item.eq s.now x)

    -- the set ends as it is: no clause says so now; kept for the proofs of callers of 1.3
    abbrev pub rests : Fml
    rests = follows_if set_row set_row s.ghost_name none (λ w. w) s.now
