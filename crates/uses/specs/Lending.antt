-- What a wrapper is once a reference into its map has ended.
use Rattle.std.specs.Prelude.{◌≡◌, ℕ, Option, String, MatchOption, ⊤}
use Rattle.std.specs.Borrow.{Fml, GName, RattleType, Bor, MutBor, Array, u64, LendsIf, follows_if, follows_so}
use Rattle.std.specs.HashMap.Lent.{HashMembers}
use Rattle.std.specs.declared.alloc.Global.{Global}
use mathlib.Core.Option as maybe
use mathlib.Core.Option.{none}
use Rattle.linked_hash_map.specs.Changes.{refreshed}
use Rattle.linked_hash_map.specs.Pairs.{set_values}
use Rattle.linked_hash_map.specs.SessionTables.{to_end}
use Rattle.uses.specs.declared.cache.Cache.{Cache}
use Rattle.uses.specs.declared.pages.Pages.{Pages}
use Rattle.uses.specs.declared.prices.Prices.{Prices}
use Rattle.uses.specs.contracts.cache.Cache.{the_row}
use Rattle.uses.specs.contracts.pages.Pages as pages
use Rattle.uses.specs.contracts.prices.Prices as prices

module _ (K V : RattleType) (key : HashMembers K.Denot) where
  -- a cache, as the logic holds it
  abbrev cache_row : RattleType
  cache_row = the_row K V (record { eq = key.eq }) (record { hash_input = key.hash_input })

  -- the pair of k is the one used last and has the last value written through the reference, and
  -- with no reference the cache is as it was
  abbrev pub lends_recent : MutBor (Cache K.Denot V.Denot) → K.Denot → Option (MutBor V.Denot) → Fml
  lends_recent c k r =
      LendsIf cache_row V c r (λ v. record c.now { map = refreshed key.eq c.now.map k v }) c.now

  -- the values are those that the loan with this name ends at, in order
  abbrev pub lends_values : MutBor (Cache K.Denot V.Denot) → maybe.Option GName → Fml
  lends_values c name =
      follows_if cache_row (Array V 0) c.ghost_name name (λ vs.
      record c.now { map = record c.now.map { pairs = set_values c.now.map.pairs vs } }) c.now

-- the prices are those that the loan with this name ends at, in order
abbrev pub lends_prices : MutBor Prices → maybe.Option GName → Fml
lends_prices p name =
    follows_if prices.the_row (Array u64 0) p.ghost_name name (λ vs.
    record p.now { items = record p.now.items { pairs = set_values p.now.items.pairs vs } }) p.now

-- the pages with this one as the one used last, and this text
abbrev pub used_last : Pages → ℕ → String Global → Pages
used_last c number text = record c {
  table = record c.table { sessions = to_end c.table.sessions number text };
}

-- the page that is shown is the one used last, and with none the pages are as they were
abbrev pub shows_page : MutBor Pages → ℕ → Option (Bor (String Global)) → Fml
shows_page c number shown =
    follows_so pages.the_row pages.the_row c.ghost_name none (λ _ _. ⊤)
    (λ last. MatchOption shown (last ≡ c.now) (λ text. last ≡ used_last c.now number text.now))
