-- What a table is once a reference into it has ended.
use Rattle.std.specs.Prelude.{ℕ, Option}
use Rattle.std.specs.Borrow.{Fml, RattleType, MutBor, LendsIf}
use Rattle.linked_hash_map.specs.SessionTables.{SessionTable, to_end}
use Rattle.linked_hash_map.specs.contracts.sessions.Sessions.{the_row}

module _ (T : RattleType) where
  -- the session of the id is at the end, with its weight and the last payload written through the
  -- reference, and with no reference the table is as it was
  abbrev pub lends_payload : MutBor (SessionTable T.Denot) → ℕ → Option (MutBor T.Denot) → Fml
  lends_payload table id r =
      LendsIf (the_row T) T table r (λ payload.
      record table.now { sessions = to_end table.now.sessions id payload }) table.now
