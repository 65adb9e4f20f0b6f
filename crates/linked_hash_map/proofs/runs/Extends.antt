-- Pairs inserted one after another: a key that is absent then, and a log that defines the map.
use Rattle.linked_hash_map.proofs.Names.{length-append, slice_get-append, KeepsSettings, rechained_each, rechained_raised, take-append_seam}
use Rattle.linked_hash_map.proofs.Names.{append_assoc, slice_get, true≢false, HasNoRoom, insert_each, LinkedMap, map-append, IsEquivalence}
use Rattle.linked_hash_map.proofs.Names.{Bool, List, None, Some, arith, false, is_some, length, refl, subst, take, true, Defines, put_each}
use Rattle.linked_hash_map.proofs.Names.{[], ap, ap₂, max, sym, ℕ, ◌++◌, ◌+◌, ◌-◌, ◌||◌, ◌∙◌, ◌∷◌, ◌≡◌, ◌≤◌, Log, Put, find, put, Mode}
use Rattle.linked_hash_map.proofs.{Callers.Collected.is_some-insert_each, log.LiveKeys.none_is}
use Rattle.linked_hash_map.proofs.pairs.{Inserts.length-put_most, RehashCounts.rechained_each-put}
use Rattle.linked_hash_map.proofs.runs.Effects.{Defines-put, IsAbsent-found, IsFull-contents}

-- a key that is absent after insertions was absent before them
pub find-insert_each_absent : {K V : Type 0} {eq : K → K → Bool} → IsEquivalence eq → (mode : Mode) (pairs items : List (K × V)) (q : K)
    → find eq (insert_each eq mode pairs items) q ≡ None → find eq pairs q ≡ None
find-insert_each_absent {eq = eq} laws mode pairs items q absent =
    none_is (find eq pairs q) (none_of (is_some (find eq pairs q))
    (sym (is_some-insert_each laws mode pairs items q) ∙ ap is_some absent))
  where
    none_of : (b : Bool) → (b || is_some (find eq items q)) ≡ false → b ≡ false
    none_of true h = absurd (true≢false h)
    none_of false h = refl

-- of all pairs the first, n of them, went into a map, and left another, and the rest is to come: a
-- log that defines the one map defines the other with a Put for each
pub record HasExtended {K V S : Type 0} (eq : K → K → Bool) (old : LinkedMap K V S)
    (all first rest : List (K × V)) (n : ℕ) (new : LinkedMap K V S) : Type 0 where
  pub count : n ≡ length first
  pub split : first ++ rest ≡ all
  pub defines : (start : ℕ) (log : Log K V) → Defines eq start log old.pairs old.capacity old.mode
      → Defines eq start (log ++ put_each first) new.pairs new.capacity new.mode
  pub hasher : new.hasher ≡ old.hasher
  pub above : old.capacity ≤ new.capacity
  pub rechained : new.rechained ≡ rechained_each old.rechained old.capacity (new.capacity - old.capacity)

module _ {K V S : Type 0} {eq : K → K → Bool} (laws : IsEquivalence eq)
    {old before : LinkedMap K V S} {all first these : List (K × V)} {n : ℕ}
    (so_far : HasExtended eq old all first these n before) {k : K} {v : V} {rest : List (K × V)}
    (next : these ≡ (k, v) ∷ rest) where
  longer : (log : Log K V) → (log ++ put_each first) ++ Put k v ∷ [] ≡ log ++ put_each (first ++ (k, v) ∷ [])
  longer log =
      append_assoc log (put_each first) (Put k v ∷ []) ∙ ap (λ events. log ++ events)
      (sym (map-append (λ (pair : K × V). Put pair.0 pair.1) first ((k, v) ∷ [])))

  -- the next pair went in
  pub HasExtended-put : {after : LinkedMap K V S} → after.pairs ≡ put eq before.mode before.pairs k v
      → after.capacity ≡ max before.capacity (length after.pairs)
      → after.rechained ≡ rechained_raised before.rechained (length before.pairs) before.capacity after.capacity
      → length before.pairs ≤ before.capacity → KeepsSettings before after
      → HasExtended eq old all (first ++ (k, v) ∷ []) rest (n + 1) after
  HasExtended-put {after} pairs_are raised counted within same = record {
    count = let as_many = so_far.count in let longer = length-append first ((k, v) ∷ []) in omega arith;
    split = append_assoc first ((k, v) ∷ []) rest ∙ ap (λ es. first ++ es) (sym next) ∙ so_far.split;
    defines = λ start log defines.
        subst (λ events. Defines eq start events after.pairs after.capacity after.mode) (longer log)
        (Defines-put laws (so_far.defines start log defines) k v pairs_are raised same.mode);
    hasher = same.hasher ∙ so_far.hasher;
    above = let start = so_far.above in omega (arith, start, raised);
    rechained = rechained_each-put old.rechained old.capacity so_far.above so_far.rechained within
        (subst (λ ps. length ps ≤ length before.pairs + 1) (sym pairs_are)
        (length-put_most eq before.mode before.pairs k v)) raised counted;
  }

  whole : first ++ (k, v) ∷ rest ≡ all
  whole = ap (λ es. first ++ es) (sym next) ∙ so_far.split

  -- the next pair is that after the first n, which are those that went in
  pub next-there : slice_get all n ≡ Some (k, v)
  next-there = ap₂ (λ i es. slice_get es i) so_far.count (sym whole) ∙ slice_get-append first (k, v) rest

  taken-first : take n all ≡ first
  taken-first = ap₂ (λ i es. take i es) so_far.count (sym whole) ∙ take-append_seam first ((k, v) ∷ rest)

  -- if it has no room, it is refused on the log with a Put for each of those, which goes on to
  -- define the map
  pub HasNoRoom-next : {start : ℕ} {log : Log K V} → Defines eq start log old.pairs old.capacity old.mode → find eq before.pairs k ≡ None
      → length before.pairs ≡ before.capacity → HasNoRoom eq start (log ++ put_each (take n all)) k
  HasNoRoom-next defines absent full = grind (arith, taken-first, IsAbsent-found, IsFull-contents)

  pub Defines-taken : {start : ℕ} {log : Log K V} → Defines eq start log old.pairs old.capacity old.mode → {after : LinkedMap K V S}
      → after ≡ before → Defines eq start (log ++ put_each (take n all)) after.pairs after.capacity after.mode
  Defines-taken defines unchanged = grind (arith, taken-first)
