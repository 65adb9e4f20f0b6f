-- What a cache is once a reference into it has ended.
use Rattle.std.specs.Prelude.{◌≡◌, Bool, Option, [], ⊤}
use Rattle.std.specs.Borrow.{Fml, GName, RattleType, MutBor, Array, u8, LendsIf, follows, follows_if, follows_so}
use mathlib.Core.Option as maybe
use mathlib.Core.Option.{none}
use Rattle.std.specs.HashMap.Lent.{HashMembers}
use Rattle.std.specs.declared.hash.Hasher as hasher
use Rattle.std.specs.declared.hash.BuildHasher as builder
use Rattle.linked_hash_map.specs.Pairs.{to_back_by, to_back_as_is, set_value, set_values}
use Rattle.lru_cache.specs.Cache.{Cache}
use Rattle.lru_cache.specs.contracts.cache.LruCache.{the_row}

module _ (K V S H : RattleType) (key : HashMembers K.Denot) (build : builder.Ghosts S.Denot H.Denot)
    (hash : hasher.Ghosts H.Denot) where
  -- the cache's type, as the logic holds it
  abbrev pub cache_row : RattleType
  cache_row =
      the_row K V S H (record { eq = key.eq }) (record { hash_input = key.hash_input }) build hash

  module _ (c : MutBor (Cache K.Denot V.Denot S.Denot)) where
    -- by k, which looks up a key
    module _ {A : Type 0} (eq : A → K.Denot → Bool) where
      -- the value of k is the last one written through the reference, and with no reference the
      -- cache is as it was
      abbrev pub lends_value : A → Option (MutBor V.Denot) → Fml
      lends_value k r =
          LendsIf cache_row V c r (λ v. record c.now { pairs = set_value eq c.now.pairs k v }) c.now

      -- the same, and the pair of k is the one used last
      abbrev pub lends_used : (A → Option K.Denot) → A → Option (MutBor V.Denot) → Fml
      lends_used as_key k r =
          LendsIf cache_row V c r (λ v.
          record c.now { pairs = to_back_by eq as_key c.now.pairs k v }) c.now

      -- the pair of k, if there is one, is the one used last, as it is
      abbrev pub shows_used : A → Fml
      shows_used k =
          follows_so cache_row cache_row c.ghost_name none (λ _ _. ⊤) (λ last.
          last ≡ record c.now { pairs = to_back_as_is eq c.now.pairs k })

    -- the values are those that the loan with this name ends at, in order
    abbrev pub lends_values : maybe.Option GName → Fml
    lends_values name =
        follows_if cache_row (Array V 0) c.ghost_name name (λ vs.
        record c.now { pairs = set_values c.now.pairs vs }) c.now

    -- the cache is empty once the borrow with this name, of no bytes, ends
    abbrev pub lends_drained : GName → Fml
    lends_drained name =
        follows cache_row (Array u8 0) c.ghost_name name (λ _. record c.now { pairs = [] })
