-- What a map is once a reference into it has ended.
use Rattle.std.specs.Prelude.{ℕ, Bool, Option}
use Rattle.std.specs.Borrow.{Fml, GName, RattleType, MutBor, Array, u8, Lends, LendsIf, follows, follows_if}
use mathlib.Core.Option as maybe
use Rattle.std.specs.HashMap.Lent.{HashMembers}
use Rattle.std.specs.declared.hash.Hasher as hasher
use Rattle.std.specs.declared.hash.BuildHasher as builder
use Rattle.linked_hash_map.specs.LinkedMap.{LinkedMap, without_entry}
use Rattle.linked_hash_map.specs.Changes.{refreshed_by, drained}
use Rattle.linked_hash_map.specs.Pairs.{set_value, set_values, set_first, set_last}
use Rattle.linked_hash_map.specs.Indexes.{set_value_at}
use Rattle.linked_hash_map.specs.contracts.map.LinkedHashMap.{the_row}

module _ (K V S H : RattleType) (key : HashMembers K.Denot) (build : builder.Ghosts S.Denot H.Denot)
    (hash : hasher.Ghosts H.Denot) where
  -- the map's type, as the logic holds it
  abbrev pub map_row : RattleType
  map_row =
      the_row K V S H (record { eq = key.eq }) (record { hash_input = key.hash_input }) build hash

  module _ (m : MutBor (LinkedMap K.Denot V.Denot S.Denot)) where
    -- the value at the index is the last one written through the reference
    abbrev pub lends_at : ℕ → MutBor V.Denot → Fml
    lends_at index r =
        Lends map_row V m r (λ v. record m.now { pairs = set_value_at m.now.pairs index v })

    -- the value of the pair that an entry stood for is the last one written through the reference
    abbrev pub lends_left : MutBor V.Denot → Fml
    lends_left r =
        Lends map_row V m r (λ v.
        record m.now {
          pairs = set_value_at m.now.pairs m.now.cursor.current v;
          cursor = without_entry m.now.cursor;
        })

    -- the value of k, which is present, is the last one written through the reference
    abbrev pub lends_present : K.Denot → MutBor V.Denot → Fml
    lends_present k r =
        Lends map_row V m r (λ v. record m.now { pairs = set_value key.eq m.now.pairs k v })

    -- by k, which looks up a key
    module _ {A : Type 0} (eq : A → K.Denot → Bool) where
      -- the value of k is the last one written through the reference, and with no reference the map
      -- is as it was
      abbrev pub lends_value : A → Option (MutBor V.Denot) → Fml
      lends_value k r =
          LendsIf map_row V m r (λ v. record m.now { pairs = set_value eq m.now.pairs k v }) m.now

      -- the map is refreshed by k with the last value written through the reference, and with no
      -- reference it is as it was
      abbrev pub lends_refreshed : (A → Option K.Denot) → A → Option (MutBor V.Denot) → Fml
      lends_refreshed as_key k r = LendsIf map_row V m r (refreshed_by eq as_key m.now k) m.now

    -- the value of the first pair, or of the last, is the last one written through the reference, and
    -- with no reference the map is as it was
    abbrev pub lends_first : Option (MutBor V.Denot) → Fml
    lends_first r =
        LendsIf map_row V m r (λ v. record m.now { pairs = set_first m.now.pairs v }) m.now

    abbrev pub lends_last : Option (MutBor V.Denot) → Fml
    lends_last r =
        LendsIf map_row V m r (λ v. record m.now { pairs = set_last m.now.pairs v }) m.now

    -- the values are those that the loan with this name ends at, in order
    abbrev pub lends_values : maybe.Option GName → Fml
    lends_values name =
        follows_if map_row (Array V 0) m.ghost_name name (λ vs.
        record m.now { pairs = set_values m.now.pairs vs }) m.now

    -- the map is empty once the borrow with this name, of no bytes, ends
    abbrev pub lends_drained : GName → Fml
    lends_drained name = follows map_row (Array u8 0) m.ghost_name name (λ _. drained m.now)
