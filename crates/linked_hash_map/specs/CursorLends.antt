-- What the contracts of a cursor cite.
use Rattle.std.specs.Prelude.{[], Option}
use Rattle.std.specs.Borrow.{Fml, RattleType, MutBor, follows, follows_if, name_if_some}
use Rattle.std.specs.HashMap.Lent.{HashMembers}
use Rattle.std.specs.declared.cmp.PartialEq as eq
use Rattle.std.specs.declared.hash.Hash as hash
use Rattle.std.specs.declared.hash.Hasher as hasher
use Rattle.std.specs.declared.hash.BuildHasher as builder
use mir.Syntax.{named}
use Rattle.linked_hash_map.specs.LinkedMap.{LinkedMap}
use Rattle.linked_hash_map.specs.Lends.{map_row}
use Rattle.linked_hash_map.specs.declared.entry.OccupiedEntry.{OccupiedEntry}
use Rattle.linked_hash_map.specs.declared.entry.cursor.Entries.{Entries}
use Rattle.linked_hash_map.specs.contracts.entry.cursor.Entries as entries

module _ {K V S H : Type 0} where
  -- the reference to the map, the map, and the cursor with another map behind its reference
  abbrev pub cursor_map_ref : Entries K V S H → MutBor (LinkedMap K V S)
  cursor_map_ref c = c.map

  abbrev pub cursor_map : Entries K V S H → LinkedMap K V S
  cursor_map c = c.map.now

  abbrev pub with_cursor_map : Entries K V S H → LinkedMap K V S → Entries K V S H
  with_cursor_map c m = record { map = record c.map { now = m } }

module _ (K V S H : RattleType) (key : HashMembers K.Denot) (build : builder.Ghosts S.Denot H.Denot)
    (hashing : hasher.Ghosts H.Denot) where
  -- the cursor's type, as the logic holds it
  abbrev pub cursor_row : RattleType
  cursor_row =
      entries.the_row (record { mir = named 1; lft = [] }) K V S H (record { eq = key.eq })
      (record { hash_input = key.hash_input }) build hashing

  -- the cursor has the map that the reference leaves
  abbrev pub lends_map : MutBor (Entries K.Denot V.Denot S.Denot H.Denot)
      → MutBor (LinkedMap K.Denot V.Denot S.Denot) → Fml
  lends_map c r =
      follows cursor_row (map_row K V S H key build hashing) c.ghost_name r.ghost_name
      (with_cursor_map c.now)

  module _ {g : eq.Ghosts K.Denot} {h : hash.Ghosts K.Denot} {b : builder.Ghosts S.Denot H.Denot}
      {w : hasher.Ghosts H.Denot} where
    -- the map is as the entry leaves it, and with no entry it is as it was
    abbrev pub lends_next_entry : MutBor (LinkedMap K.Denot V.Denot S.Denot)
        → Option (OccupiedEntry K.Denot V.Denot S.Denot H.Denot g h b w) → Fml
    lends_next_entry m e =
        follows_if (map_row K V S H key build hashing) (map_row K V S H key build hashing)
        m.ghost_name (name_if_some (λ entry. entry.map.ghost_name) e) (λ left. left) m.now

    -- the cursor has the map that the entry leaves, and with no entry it is as it was
    abbrev pub lends_next : MutBor (Entries K.Denot V.Denot S.Denot H.Denot)
        → Option (OccupiedEntry K.Denot V.Denot S.Denot H.Denot g h b w) → Fml
    lends_next c e =
        follows_if cursor_row (map_row K V S H key build hashing) c.ghost_name
        (name_if_some (λ entry. entry.map.ghost_name) e) (with_cursor_map c.now) c.now
