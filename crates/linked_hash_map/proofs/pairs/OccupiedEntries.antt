-- The pair that an occupied entry stands for.
use Rattle.std.proofs.Common.{◌≡◌, ◌<◌, Bool, true, List, length, slice_get, Some, is_some, option_map, refl, sym, ap, ◌∙◌, subst, arith}
use Rattle.std.{proofs.Math.Bridge.le_prop, proofs.lemmas.Option.slice_get-map, specs.Cmp.IsEquivalence}
use Rattle.std.specs.declared.cmp.PartialEq as eq
use Rattle.std.specs.declared.hash.Hash as hash
use Rattle.std.specs.declared.hash.Hasher as hasher
use Rattle.std.specs.declared.hash.BuildHasher as builder
use Rattle.std.specs.{List.IsDistinct, Map.keys_of}
use Rattle.lhm_ring.proofs.lists.Options.{Some-injective}
use Rattle.linked_hash_map.specs.Pairs.{find, value_at, set_value}
use Rattle.linked_hash_map.specs.Entry.{occupied_pair, occupied_key, with_occupied_value, occupied_value}
use Rattle.linked_hash_map.specs.{Indexes.IsIndex, Indexes.set_value_at, Changes.MovesCurrent, LinkedMap.LinkedMap, Cursor.IsOutside}
use Rattle.linked_hash_map.specs.{Cursor.IsOutside-prop, Updates.Updates, declared.entry.OccupiedEntry.OccupiedEntry}
use Rattle.linked_hash_map.proofs.pairs.Indexes.{slice_get-within, slice_get-pair_at, slice_get-set_value_at, is_some-at}
use Rattle.linked_hash_map.proofs.{Callers.Updates.Updates-set_value, pairs.EntryMaps.IsValid-current, pairs.Indexes.value_at-slice_get}

module _ {K V S H : Type 0} {g : eq.Ghosts K} {h : hash.Ghosts K} {b : builder.Ghosts S H}
    {w : hasher.Ghosts H} (o : OccupiedEntry K V S H g h b w) where
  pub slice_get-occupied : slice_get o.map.now.pairs o.map.now.cursor.current ≡ Some (occupied_pair o)
  unfolding occupied_pair
  slice_get-occupied = slice_get-pair_at o.map.now.pairs o.map.now.cursor.current o.within

  pub slice_get-occupied_key : slice_get (keys_of o.map.now.pairs) o.map.now.cursor.current ≡ Some (occupied_key o)
  slice_get-occupied_key = grind (arith, slice_get-map, slice_get-occupied)

  -- the pair at the index
  pub occupied_pair-is : (pair : K × V) → slice_get o.map.now.pairs o.map.now.cursor.current ≡ Some pair → pair ≡ occupied_pair o
  occupied_pair-is pair there = Some-injective _ _ (sym there ∙ slice_get-occupied)

  pub occupied_pair-index : {ps : List (K × V)} → o.map.now.pairs ≡ ps → {eq : K → K → Bool} {k : K}
      → (index : IsIndex eq ps k o.map.now.cursor.current) → index.pair ≡ occupied_pair o
  occupied_pair-index same index = occupied_pair-is index.pair (ap (λ ps. slice_get ps o.map.now.cursor.current) same ∙ index.there)

  pub occupied_value-is : (v : V) → option_map (λ pair. pair.1) (slice_get o.map.now.pairs o.map.now.cursor.current) ≡ Some v
      → v ≡ (occupied_pair o).1
  occupied_value-is v there = Some-injective _ _ (sym there ∙ ap (option_map (λ pair. pair.1)) slice_get-occupied)

  pub IsIndex-occupied : {eq : K → K → Bool} → IsEquivalence eq → IsIndex eq o.map.now.pairs (occupied_key o) o.map.now.cursor.current
  IsIndex-occupied laws = record { pair = occupied_pair o; there = slice_get-occupied; same = laws.refl (occupied_key o) }

  pub is_some-occupied : {eq : K → K → Bool} → IsEquivalence eq → is_some (find eq o.map.now.pairs (occupied_key o)) ≡ true
  is_some-occupied laws = grind (arith, is_some-at, slice_get-occupied)

  -- once the current pair was moved and written
  pub within-moved : {eq : K → K → Bool} {write : K × V → K × V} {new : LinkedMap K V S} → MovesCurrent eq write o.map.now new
      → new.cursor.current < length new.pairs
  within-moved {new = new} moves = slice_get-within new.pairs new.cursor.current _ (moves.pair _ slice_get-occupied)

  -- once a value is written
  pub occupied_pair-written : (v : V) → occupied_pair (with_occupied_value o v) ≡ (occupied_key o, v)
  unfolding occupied_pair
  occupied_pair-written v = grind (arith, Some-injective, slice_get-pair_at, slice_get-set_value_at, slice_get-occupied)

  pub with_occupied_value-is : (v : V) (within : o.map.now.cursor.current
      < length (set_value_at o.map.now.pairs o.map.now.cursor.current v))
      (outside : IsOutside o.map.now.cursor.current (with_occupied_value o v).map.now)
      → record { map = (with_occupied_value o v).map; within = within; outside = outside } ≡ with_occupied_value o v
  with_occupied_value-is v within outside i = record (with_occupied_value o v) {
    within = le_prop within (with_occupied_value o v).within i;
    outside = IsOutside-prop o.map.now.cursor.current (with_occupied_value o v).map.now outside o.outside i;
  }

-- of a map with these pairs, the entry's key has the entry's value
pub value_at-occupied : {K V S H : Type 0} {g : eq.Ghosts K} {h : hash.Ghosts K}
    {b : builder.Ghosts S H} {w : hasher.Ghosts H} (o : OccupiedEntry K V S H g h b w)
    {eq : K → K → Bool} {pairs : List (K × V)} → IsEquivalence eq → IsDistinct eq (keys_of pairs)
    → o.map.now.pairs ≡ pairs → value_at eq pairs (occupied_key o) ≡ Some (occupied_value o)
value_at-occupied o {eq} laws distinct same =
    ap (λ ps. value_at eq ps (occupied_key o)) (sym same)
    ∙ value_at-slice_get laws (subst (λ ps. IsDistinct eq (keys_of ps)) (sym same) distinct) (IsIndex-occupied o laws)
    ∙ ap (option_map (λ pair. pair.1)) (slice_get-occupied o)

-- and once a value is written there, that value
pub Updates-occupied : {K V S H : Type 0} {g : eq.Ghosts K} {h : hash.Ghosts K}
    {b : builder.Ghosts S H} {w : hasher.Ghosts H} (o : OccupiedEntry K V S H g h b w)
    {eq : K → K → Bool} {pairs : List (K × V)} → IsEquivalence eq → o.map.now.pairs ≡ pairs → (v : V)
    → Updates eq pairs (set_value eq pairs (occupied_key o) v) (occupied_key o) (Some v)
Updates-occupied o {eq} {pairs} laws same v =
    Updates-set_value laws pairs _ (occupied_key o)
    (subst (λ ps. is_some (find eq ps (occupied_key o)) ≡ true) same (is_some-occupied o laws)) v refl

-- for what an entry shows
pub ruleset shown_entries = (occupied_pair-is, IsValid-current)

-- for an entry that is moved or written
pub ruleset moved_entries = (slice_get-occupied, occupied_pair-is, IsIndex-occupied, slice_get-within, IsValid-current)
