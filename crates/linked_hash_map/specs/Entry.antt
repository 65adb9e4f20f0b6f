-- What the contracts of entries cite.
pub use Rattle.linked_hash_map.specs.declared.entry.Entry.TheVariants.{Occupied, Vacant}
use Rattle.std.specs.Prelude.{Bool, true, false, [], Option, Some, None, Result}
use Rattle.std.specs.Borrow.{Fml, RattleType, MutBor, follows, follows_if, name_if_ok}
use Rattle.std.specs.HashMap.Lent.{HashMembers}
use Rattle.std.specs.declared.cmp.PartialEq as eq
use Rattle.std.specs.declared.hash.Hash as hash
use Rattle.std.specs.declared.hash.Hasher as hasher
use Rattle.std.specs.declared.hash.BuildHasher as builder
use mir.Syntax.{named}
use Rattle.linked_hash_map.specs.LinkedMap.{LinkedMap, without_entry}
use Rattle.linked_hash_map.specs.Lends.{map_row}
use Rattle.linked_hash_map.specs.Changes.{pushed, set_or_pushed}
use Rattle.linked_hash_map.specs.Pairs.{set_value}
use Rattle.linked_hash_map.specs.Indexes.{pair_at, set_value_at, within-set_value_at}
use Rattle.linked_hash_map.specs.declared.entry.Entry.{Entry}
use Rattle.linked_hash_map.specs.declared.entry.OccupiedEntry.{OccupiedEntry}
use Rattle.linked_hash_map.specs.declared.entry.VacantEntry.{VacantEntry}
use Rattle.linked_hash_map.specs.contracts.entry.OccupiedEntry as occupied

module _ {K V S H : Type 0} {g : eq.Ghosts K} {h : hash.Ghosts K} {b : builder.Ghosts S H}
    {w : hasher.Ghosts H} where
  -- of an occupied entry: the reference to the map; the map; the pair that it stands for; the
  -- stored key and the value
  abbrev pub occupied_map_ref : OccupiedEntry K V S H g h b w → MutBor (LinkedMap K V S)
  occupied_map_ref o = o.map

  abbrev pub occupied_map : OccupiedEntry K V S H g h b w → LinkedMap K V S
  occupied_map o = record o.map.now { cursor = without_entry o.map.now.cursor }

  unfoldable pub occupied_pair : OccupiedEntry K V S H g h b w → K × V
  occupied_pair o = pair_at o.map.now.pairs o.map.now.cursor.current o.within

  abbrev pub occupied_key : OccupiedEntry K V S H g h b w → K
  occupied_key o = (occupied_pair o).0

  abbrev pub occupied_value : OccupiedEntry K V S H g h b w → V
  occupied_value o = (occupied_pair o).1

  -- of a vacant one: the map, as the entry holds it, and the key that it owns
  abbrev pub vacant_map : VacantEntry K V S H g h b w → LinkedMap K V S
  vacant_map e = e.map.now

  abbrev pub vacant_key : VacantEntry K V S H g h b w → K
  vacant_key e = e.key

  -- of either kind: the reference to the map, the map, the kind, the key, and the value if there
  -- is one
  abbrev pub entry_map_ref : Entry K V S H g h b w → MutBor (LinkedMap K V S)
  entry_map_ref (Occupied o) = occupied_map_ref o
  entry_map_ref (Vacant e) = e.map

  abbrev pub entry_map : Entry K V S H g h b w → LinkedMap K V S
  entry_map (Occupied o) = occupied_map o
  entry_map (Vacant e) = vacant_map e

  abbrev pub is_occupied : Entry K V S H g h b w → Bool
  is_occupied (Occupied o) = true
  is_occupied (Vacant e) = false

  abbrev pub entry_key : Entry K V S H g h b w → K
  entry_key (Occupied o) = occupied_key o
  entry_key (Vacant e) = vacant_key e

  abbrev pub entry_value : Entry K V S H g h b w → Option V
  entry_value (Occupied o) = Some (occupied_value o)
  entry_value (Vacant e) = None

  -- an occupied entry, once v is its value
  abbrev pub with_occupied_value : OccupiedEntry K V S H g h b w → V → OccupiedEntry K V S H g h b w
  with_occupied_value o v = record {
    map =
        record o.map {
          now = record o.map.now
              { pairs = set_value_at o.map.now.pairs o.map.now.cursor.current v };
        };
    within = within-set_value_at o.map.now.pairs o.map.now.cursor.current v o.within;
    outside = o.outside;
  }

module _ (K V S H : RattleType) (key : HashMembers K.Denot) (build : builder.Ghosts S.Denot H.Denot)
    (hashing : hasher.Ghosts H.Denot) {g : eq.Ghosts K.Denot} {h : hash.Ghosts K.Denot}
    {b : builder.Ghosts S.Denot H.Denot} {w : hasher.Ghosts H.Denot} where
  -- the entry has the last value written through the reference
  abbrev pub lends_in_entry : MutBor (OccupiedEntry K.Denot V.Denot S.Denot H.Denot g h b w)
      → MutBor V.Denot → Fml
  lends_in_entry o r =
      follows (occupied.the_row (record { mir = named 1; lft = [] }) K V S H g h b w) V o.ghost_name
      r.ghost_name (with_occupied_value o.now)

  -- the map of an occupied entry has the last value written through the reference as the value of
  -- its key
  abbrev pub lends_occupied : OccupiedEntry K.Denot V.Denot S.Denot H.Denot g h b w → MutBor V.Denot
      → Fml
  lends_occupied o r = follows (map_row K V S H key build hashing) V o.map.ghost_name r.ghost_name
      (λ v. record (occupied_map o) {
        pairs = set_value key.eq (occupied_map o).pairs (occupied_key o) v;
      })

  -- the map of a vacant entry has the pair of its key and the last value written through the
  -- reference at the back, and room for it; with no reference it is as it was
  abbrev pub lends_pushed : {E : Type 0} → VacantEntry K.Denot V.Denot S.Denot H.Denot g h b w
      → Result (MutBor V.Denot) E → Fml
  lends_pushed e r =
      follows_if (map_row K V S H key build hashing) V e.map.ghost_name
      (name_if_ok (λ lent. lent.ghost_name) r)
      (pushed (vacant_map e) (vacant_key e))
      (vacant_map e)

  -- the map of an entry has the last value written through the reference as the value of its key,
  -- in its place or else at the back, and room for it; with no reference it is as it was
  abbrev pub lends_entry : {E : Type 0} → Entry K.Denot V.Denot S.Denot H.Denot g h b w
      → Result (MutBor V.Denot) E → Fml
  lends_entry e r =
      follows_if (map_row K V S H key build hashing) V (entry_map_ref e).ghost_name
      (name_if_ok (λ lent. lent.ghost_name) r)
      (set_or_pushed key.eq (entry_map e) (entry_key e))
      (entry_map e)
