-- Insertions one after another.
use Rattle.std.proofs.Common.{◌≡◌, ℕ, ◌+◌, ◌-◌, ◌≤◌, max, Bool, true, false, cond, filter, List, [], ◌∷◌, ◌++◌, length, Some, refl, ap, ◌∙◌}
use Rattle.std.proofs.{Common.subst, Common.arith, Common.length-append, lemmas.List.length-map}
use Rattle.std.specs.Iterator.{Count, IsFinite, size, MakesProgress}
use Rattle.std.specs.{List.IsDistinct, Map.keys_of, Cmp.IsEquivalence}
use Rattle.linked_hash_map.specs.{Changes.KeepsSettings, LinkedMap.LinkedMap, Counts.rechained_raised, Counts.rechained_each, Log.Put}
use Rattle.linked_hash_map.specs.{declared.map.Mode.Mode, declared.map.Mode.TheVariants.Touch, Pairs.to_back, Pairs.put, Run.first_log}
use Rattle.linked_hash_map.specs.{Inserts.insert_each, Validity.IsValid}
use Rattle.linked_hash_map.proofs.runs.Steps.{put_last, last_differs, mode-first_log, pairs-first_log}
use Rattle.linked_hash_map.proofs.{log.Bridge.pairs-put, pairs.RehashCounts.rechained_each-put, log.Distinct.distinct-pairs}
use Rattle.linked_hash_map.proofs.{lists.Elements.by_last, pairs.Calls.length-put}

length-filter : {A : Type 0} (test : A → Bool) (xs : List A) → length (filter test xs) ≤ length xs
length-filter test [] = omega arith
length-filter test (x ∷ xs) = by_test (test x) (length-filter test xs)
  where
    by_test : (b : Bool) → length (filter test xs) ≤ length xs → length (cond b (x ∷ filter test xs) (filter test xs)) ≤ length (x ∷ xs)
    by_test true rest = omega arith
    by_test false rest = omega arith

-- an insertion adds one pair at most
pub length-put_most : {K V : Type 0} (eq : K → K → Bool) (mode : Mode) (pairs : List (K × V))
    (k : K) (v : V) → length (put eq mode pairs k v) ≤ length pairs + 1
length-put_most eq mode pairs k v = grind (arith, length-filter, length-append, length-map)

-- one more item goes in last
pub insert_each-last : {K V : Type 0} (eq : K → K → Bool) (mode : Mode) (pairs items : List (K × V)) (item : K × V)
    → insert_each eq mode pairs (items ++ item ∷ []) ≡ put eq mode (insert_each eq mode pairs items) item.0 item.1
insert_each-last eq mode pairs [] item = refl
insert_each-last eq mode pairs (first ∷ items) item = insert_each-last eq mode (put eq mode pairs first.0 first.1) items item

-- the items went into one map, and left another
pub record HasInserted {K V S : Type 0} (eq : K → K → Bool) (old : LinkedMap K V S)
    (items : List (K × V)) (new : LinkedMap K V S) : Type 0 where
  pub pairs : new.pairs ≡ insert_each eq old.mode old.pairs items
  pub capacity : new.capacity ≡ max old.capacity (length new.pairs)
  pub rechained : new.rechained ≡ rechained_each old.rechained old.capacity (new.capacity - old.capacity)
  pub settings : KeepsSettings old new

-- one pair went into a map, and left another
pub record HasPut {K V S : Type 0} (eq : K → K → Bool) (k : K) (v : V) (before after : LinkedMap K V S) : Type 0 where
  pub pairs : after.pairs ≡ put eq before.mode before.pairs k v
  pub capacity : after.capacity ≡ max before.capacity (length after.pairs)
  pub rechained : after.rechained
      ≡ rechained_raised before.rechained (length before.pairs) before.capacity after.capacity
  pub settings : KeepsSettings before after

-- the items that came, and those left to come, are no more than were left at the start
pub record AreWithinBound {I : Type 0} (remaining : I → Count) (start now : I) (came : ℕ) : Type 0 where
  pub finite : IsFinite (remaining now)
  pub fewer : came + size (remaining now) ≤ size (remaining start)

pub AreWithinBound-next : {I X : Type 0} (can : I → Type 0) (remaining : I → Count) {start now later : I} (came : List X) (item : X)
    → AreWithinBound remaining start now (length came) → MakesProgress can remaining now (Some item) later
    → AreWithinBound remaining start later (length (came ++ item ∷ []))
AreWithinBound-next can remaining came item bound goes = grind (arith, length-append)

module _ {K V : Type 0} {eq : K → K → Bool} (laws : IsEquivalence eq) where
  -- keys that differ still do after an insertion
  pub distinct-put : (m : Mode) (pairs : List (K × V)) (k : K) (v : V)
      → IsDistinct eq (keys_of pairs) → IsDistinct eq (keys_of (put eq m pairs k v))
  distinct-put m pairs k v distinct = subst (λ es. IsDistinct eq (keys_of es))
      (pairs-put laws (first_log m pairs) k v ∙ (λ i. put eq (mode-first_log m pairs i) (pairs-first_log laws m pairs distinct i) k v))
      (distinct-pairs laws (first_log m pairs ++ Put k v ∷ []))

  pub distinct-to_back : (pairs : List (K × V)) (k : K) (v : V) → IsDistinct eq (keys_of pairs)
      → IsDistinct eq (keys_of (to_back eq pairs k v))
  distinct-to_back = distinct-put Touch

  pub distinct-insert_each : (m : Mode) (pairs items : List (K × V)) → IsDistinct eq (keys_of pairs)
      → IsDistinct eq (keys_of (insert_each eq m pairs items))
  distinct-insert_each m pairs [] distinct = distinct
  distinct-insert_each m pairs (item ∷ items) distinct = distinct-insert_each m
      (put eq m pairs item.0 item.1) items (distinct-put m pairs item.0 item.1 distinct)

  -- an insertion takes no pair away, nor do many
  pub length-grows : (m : Mode) (pairs : List (K × V)) (k : K) (v : V)
      → IsDistinct eq (keys_of pairs) → length pairs ≤ length (put eq m pairs k v)
  length-grows m pairs k v distinct = grind (arith, length-put)

  pub length-insert_each_least : (m : Mode) (pairs items : List (K × V))
      → IsDistinct eq (keys_of pairs) → length pairs ≤ length (insert_each eq m pairs items)
  length-insert_each_least m pairs [] distinct = omega arith
  length-insert_each_least m pairs (item ∷ items) distinct =
      let rest = length-insert_each_least m (put eq m pairs item.0 item.1) items (distinct-put m pairs item.0 item.1 distinct) in
      grind (arith, length-grows)

  -- none went in yet
  pub HasInserted-none : {S : Type 0} (start : LinkedMap K V S) → IsValid eq start → HasInserted eq start [] start
  HasInserted-none start valid = grind arith

  -- one more insertion, after those of some items
  pub HasInserted-put : {S : Type 0} {start : LinkedMap K V S} {items : List (K × V)} (k : K)
      (v : V) {before after : LinkedMap K V S} → IsDistinct eq (keys_of start.pairs)
      → HasInserted eq start items before → HasPut eq k v before after → HasInserted eq start (items ++ (k, v) ∷ []) after
  HasInserted-put k v distinct so_far put_one =
      grind (arith, distinct-insert_each, length-grows, length-put_most, insert_each-last, rechained_each-put)

  -- pairs with keys that differ stay as they are inserted
  pub insert_each-distinct : (m : Mode) (pairs : List (K × V)) → IsDistinct eq (keys_of pairs) → insert_each eq m [] pairs ≡ pairs
  insert_each-distinct m = by_last (λ es. IsDistinct eq (keys_of es) → insert_each eq m [] es ≡ es)
      (λ es e rest distinct. let apart = last_differs laws es e distinct in
      insert_each-last eq m [] es e ∙ ap (λ xs. put eq m xs e.0 e.1) (rest apart.0) ∙ put_last laws m es e apart.1)
      (λ distinct. refl)
