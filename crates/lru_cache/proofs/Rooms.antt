-- The room of a cache after insertions.
use Rattle.std.proofs.Common.{◌≡◌, inl, inr, ℕ, ◌<◌, ◌≤◌, max, Bool, List, [], ◌∷◌, ◌++◌, length, None, is_some, refl, sym, ap, ◌∙◌}
use Rattle.std.proofs.Common.{true≢false, arith}
use Rattle.std.specs.{Cmp.IsEquivalence, List.IsDistinct, Map.keys_of, Option.IsSome}
use Rattle.linked_hash_map.specs.{declared.map.Mode.TheVariants.Touch, Pairs.find, Pairs.to_back}
use Rattle.linked_hash_map.proofs.Callers.{Keys.length-put_absent, Updates.max-length_put}
use Rattle.lru_cache.specs.{Cache.Cache, Cache.inserted, Cache.IsRoomAfter, Extension.insert_each, Extension.IsRoomAfterEach}

module _ {K V S : Type 0} (eq : K → K → Bool) (c : Cache K V S) (k : K) (room : ℕ) (same : room ≡ c.room) where
  -- of a present key
  pub IsRoomAfter-present : IsSome (find eq c.pairs k) → IsRoomAfter eq c k room
  IsRoomAfter-present there = record {
    present = λ _. same;
    below = λ _. same;
    at = λ none _. absurd (true≢false (sym there ∙ ap is_some none));
  }

  -- in a full cache, if memory was refused
  pub IsRoomAfter-full : length c.pairs ≡ c.limit → IsRoomAfter eq c k room
  IsRoomAfter-full full = record { present = λ _. same; below = λ _. same; at = λ _ _. inr (full, same) }

-- if it is the capacity of a map after the insertion
pub IsRoomAfter-put : {K V S : Type 0} {eq : K → K → Bool} → IsEquivalence eq → (c : Cache K V S) (k : K) (v : V) (room : ℕ)
    → IsDistinct eq (keys_of c.pairs) → length c.pairs ≤ c.room → room ≡ max c.room (length (to_back eq c.pairs k v))
    → IsRoomAfter eq c k room
IsRoomAfter-put {eq = eq} laws c k v room distinct within is = record {
  present = λ there. stays (λ none. absurd (true≢false (sym there ∙ ap is_some none)));
  below = λ spare. stays (λ _. spare);
  at = λ none all. let longer = length-put_absent eq Touch c.pairs k v none in inl (omega arith);
}
  where
    stays : (find eq c.pairs k ≡ None → length c.pairs < c.room) → room ≡ c.room
    stays spare = is ∙ max-length_put laws Touch c.pairs k v c.room distinct within spare

-- in a cache with the same pairs, limit and room
IsRoomAfter-of : {K V S : Type 0} (eq : K → K → Bool) (c d : Cache K V S) (k : K) (room : ℕ)
    → d.pairs ≡ c.pairs → d.limit ≡ c.limit → d.room ≡ c.room → IsRoomAfter eq d k room → IsRoomAfter eq c k room
IsRoomAfter-of eq c d k room pairs limit same after = record {
  present = λ there. after.present (rw pairs there) ∙ same;
  below = λ spare. after.below (rw (pairs, same) spare) ∙ same;
  at = rw (← pairs, ← limit, ← same) after.at;
}

-- one insertion more, in what the insertions before it left
pub IsRoomAfterEach-snoc : {K V S : Type 0} (eq : K → K → Bool) (c d : Cache K V S) (items : List (K × V)) (item : K × V) (next : ℕ)
    → d.pairs ≡ insert_each eq c.limit c.pairs items → d.limit ≡ c.limit → IsRoomAfterEach eq c items d.room
    → IsRoomAfter eq d item.0 next → IsRoomAfterEach eq c (items ++ item ∷ []) next
IsRoomAfterEach-snoc eq c d [] item next pairs limit room last =
    (next, IsRoomAfter-of eq c d item.0 next pairs limit room last, refl)
IsRoomAfterEach-snoc eq c d (other ∷ items) item next pairs limit each last = (
  each.0,
  each.1,
  IsRoomAfterEach-snoc eq
      (record c { pairs = inserted eq c.limit c.pairs other.0 other.1; room = each.0 }) d items item next pairs limit each.2 last,
)

-- after one insertion, and one after another
pub ruleset rooms = (IsRoomAfter-present, IsRoomAfter-full, IsRoomAfter-put)

pub ruleset more_rooms = (IsRoomAfterEach-snoc)
