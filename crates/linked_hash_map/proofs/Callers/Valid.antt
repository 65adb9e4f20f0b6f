-- For callers: a map stays valid through each change. The map after it is one whose pairs, capacity
-- and cursor are as the clauses of the call say.
use Rattle.std.proofs.Common.{◌≡◌, ◌+◌, ◌<◌, ◌≤◌, max, Bool, length, None, is_some, true≢false, refl, sym, ap, ◌∙◌, arith}
use Rattle.std.specs.{Option.IsSome, Cmp.IsEquivalence}
use Rattle.std.specs.declared.cmp.PartialEq as eq
use Rattle.std.specs.declared.hash.Hash as hash
use Rattle.std.specs.declared.hash.Hasher as hasher
use Rattle.std.specs.declared.hash.BuildHasher as builder
use Rattle.linked_hash_map.specs.Pairs.{find, set_or_push, put}
use Rattle.linked_hash_map.specs.Entry.{Occupied, Vacant, occupied_key, vacant_map, vacant_key, entry_map, entry_key, entry_value}
use Rattle.linked_hash_map.specs.{LinkedMap.LinkedMap, declared.map.TheConstants.LIMIT, Validity.IsValid, declared.map.Mode.Mode}
use Rattle.linked_hash_map.specs.{declared.map.Mode.TheVariants.Keep, Changes.set_or_pushed, Changes.drained, declared.entry.Entry.Entry}
use Rattle.linked_hash_map.proofs.Callers.{Keys.distinct-nil, Keys.distinct-put, Keys.length-set_or_push_most, Updates.max-length_put}
use Rattle.linked_hash_map.proofs.pairs.{Inserts.length-grows, OccupiedEntries.is_some-occupied}

module _ {K V S : Type 0} {eq : K → K → Bool} (laws : IsEquivalence eq) {m n : LinkedMap K V S} where
  -- after `insert` in either mode, if the pairs are within the limit, and those left to visit there
  pub IsValid-put : (mode : Mode) (k : K) (v : V) → IsValid eq m → n.pairs ≡ put eq mode m.pairs k v
      → n.capacity ≡ max m.capacity (length n.pairs) → length n.pairs ≤ LIMIT
      → n.cursor.bookmark + n.cursor.unvisited ≤ length n.pairs → IsValid eq n
  IsValid-put mode k v valid changed more enough reach = grind (arith, distinct-put)

  -- after `or_insert`, which leaves what is to be visited
  module _ (k : K) (v : V) (valid : IsValid eq m) (changed : n.pairs ≡ set_or_push eq m.pairs k v)
      (more : n.capacity ≡ max m.capacity (length n.pairs)) (visits : n.cursor ≡ m.cursor) where
    IsValid-set_or_push : length n.pairs ≤ LIMIT → IsValid eq n
    IsValid-set_or_push enough =
        let grows = length-grows laws Keep m.pairs k v valid.distinct in
        IsValid-put Keep k v valid changed more enough
        (omega (arith, ap length changed, valid.reach, ap (λ c. c.bookmark) visits, ap (λ c. c.unvisited) visits))

    IsValid-set_or_push_present : IsSome (find eq m.pairs k) → IsValid eq n
    IsValid-set_or_push_present found =
        let stays = max-length_put laws Keep m.pairs k v m.capacity valid.distinct valid.within
        (λ none. absurd (true≢false (sym found ∙ ap is_some none))) in
        let counted : length n.pairs ≡ length (set_or_push eq m.pairs k v) = ap length changed in
        let limit = valid.limit in
        IsValid-set_or_push (omega arith)

-- after `drain`
pub IsValid-drained : {K V S : Type 0} {eq : K → K → Bool} {m : LinkedMap K V S} → IsValid eq m → IsValid eq (drained m)
IsValid-drained valid = grind (arith, distinct-nil)

-- after the insertions of an entry, by what their clause `limit` says
module _ {K V S H : Type 0} {g : eq.Ghosts K} {h : hash.Ghosts K} {b : builder.Ghosts S H} {w : hasher.Ghosts H} where
  -- `or_insert`, `or_insert_with` and `or_default`
  pub IsValid-set_or_pushed : IsEquivalence g.eq → (e : Entry K V S H g h b w) (v : V) → IsValid g.eq (entry_map e)
      → (entry_value e ≡ None → length (entry_map e).pairs < LIMIT) → IsValid g.eq (set_or_pushed g.eq (entry_map e) (entry_key e) v)
  IsValid-set_or_pushed laws (Occupied o) v valid limit =
      IsValid-set_or_push_present laws (occupied_key o) v valid refl refl refl (is_some-occupied o laws)
  IsValid-set_or_pushed laws (Vacant e) v valid limit =
      let below = limit refl in
      let most = length-set_or_push_most g.eq (vacant_map e).pairs (vacant_key e) v in
      IsValid-set_or_push laws (vacant_key e) v valid refl refl refl (omega arith)
