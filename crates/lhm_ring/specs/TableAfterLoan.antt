-- What a table ends as once a loan of one of its values, of all of them, or of all that it held has
-- ended.
use Rattle.std.specs.Prelude.{[]}
use Rattle.std.specs.Borrow.{Fml, RattleType, MutBor, GName, Lends, follows, follows_if, Array, u8}
use mathlib.Core.Option.{Option}
use denote.RawPtr.{Ptr}
use Rattle.lhm_ring.specs.contracts.table.Table.{the_row}
use Rattle.lhm_ring.specs.Ring.{change_at, revalued, set_held_values}
use Rattle.lhm_ring.specs.Table.{TableState}

-- the same table, with the value w at p
abbrev pub with_value : {K V : Type 0} → TableState (K × V) → Ptr → V → TableState (K × V)
with_value s p w = record s { held = change_at p (revalued w) s.held }

abbrev pub lends_value : (K V : RattleType) → MutBor (TableState (K.Denot × V.Denot)) → Ptr
    → MutBor V.Denot → Fml
lends_value K V s p r = Lends (the_row K V) V s r (with_value s.now p)

-- the table has the values that the loan named r ends at, in order, and all else as it was
abbrev pub lends_values : (K V : RattleType) → MutBor (TableState (K.Denot × V.Denot))
    → Option GName → Fml
lends_values K V s r =
    follows_if (the_row K V) (Array V 0) s.ghost_name r
    (λ vs. record s.now { held = set_held_values s.now.held vs }) s.now

-- once the borrow r, of no bytes, ends, the table holds nothing, and all else is as it was
abbrev pub lends_drained : (K V : RattleType) → MutBor (TableState (K.Denot × V.Denot)) → GName
    → Fml
lends_drained K V s r =
    follows (the_row K V) (Array u8 0) s.ghost_name r (λ _. record s.now { held = [] })
