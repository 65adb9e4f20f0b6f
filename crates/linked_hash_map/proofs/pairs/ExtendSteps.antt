-- What `extend` and `extend_refs` have inserted, one step after another.
use Rattle.linked_hash_map.proofs.Names.{Bool, IfNone, IsSome, List, None, OnSome, Option, Some, [], arith, length, length-append, map, max}
use Rattle.linked_hash_map.proofs.Names.{subst, sym, ℕ, ◌++◌, ◌+◌, ◌-◌, ◌∷◌, ◌≡◌, ◌≤◌, KeepsSettings, rechained_each, to_visit}
use Rattle.linked_hash_map.proofs.Names.{CollectsInto, ExtendsWith, InsertsUntil, IsNewDefault, LeavesVisit, insert_each, LinkedMap, find}
use Rattle.linked_hash_map.proofs.Names.{value_at, IsValid, eq-or-lt_of_le, drop-nil, take-nil, length-map, map-append, IsEquivalence}
use Rattle.linked_hash_map.proofs.Names.{Count, IsFinite, MakesProgress, YieldsThen, IsDistinct, keys_of}
use Rattle.linked_hash_map.proofs.{Callers.Collected.length-insert_each_most, pairs.Inserts.HasPut, runs.Extends.find-insert_each_absent}
use Rattle.linked_hash_map.proofs.pairs.Inserts.{AreWithinBound, AreWithinBound-next, HasInserted, HasInserted-none, HasInserted-put}
use Rattle.std.specs.Iterator.{size}

-- the items that came so far, from one state of an iterator to another, went into one map, and left
-- another
pub record IsExtended {I X K V S : Type 0} (eq : K → K → Bool) (shows : X → K × V)
    (remaining : I → Count) (old : LinkedMap K V S) (start now : I) (came : List X)
    (new : LinkedMap K V S) : Type 0 where
  pub inserted : HasInserted eq old (map shows came) new
  pub valid : IsValid eq new
  pub bound : AreWithinBound remaining start now (length came)
  pub visit : LeavesVisit (length came) old new

-- what one pair that went into a map leaves to be visited, by the value that was found
pub record VisitAfterPut {K V S : Type 0} (before after : LinkedMap K V S) (found : Option V) : Type 0 where
  pub value : Option V
  pub is : value ≡ found
  pub ends : OnSome value (to_visit after ≡ [])
  pub stands : IfNone value (to_visit after ≡ to_visit before)
  pub as_many : IsSome found → length after.pairs ≡ length before.pairs
  pub more : found ≡ None → length after.pairs ≡ length before.pairs + 1

-- one more insertion, of a present key or of a new one
LeavesVisit-put : {K V S : Type 0} {n : ℕ} {old before after : LinkedMap K V S} → LeavesVisit n old before
    → length before.pairs ≤ length old.pairs + n → (value found : Option V) → value ≡ found → OnSome value (to_visit after ≡ [])
    → IfNone value (to_visit after ≡ to_visit before) → (IsSome found → length after.pairs ≡ length before.pairs)
    → (found ≡ None → length after.pairs ≡ length before.pairs + 1) → LeavesVisit (n + 1) old after
LeavesVisit-put visit most value found is ends stands as_many more = grind (arith, most)

module _ {I X K V S : Type 0} {eq : K → K → Bool} (laws : IsEquivalence eq) {shows : X → K × V}
    {remaining : I → Count} {old : LinkedMap K V S} {start : I} where
  -- none came yet
  pub IsExtended-none : IsValid eq old → IsFinite (remaining start) → IsExtended eq shows remaining old start start [] old
  IsExtended-none valid finite = grind (arith, HasInserted-none)

  -- one more comes
  module _ {came : List X} {item : X} {can : I → Type 0} {now later : I} {before : LinkedMap K V S}
      (distinct : IsDistinct eq (keys_of old.pairs))
      (so_far : IsExtended eq shows remaining old start now came before)
      (goes : MakesProgress can remaining now (Some item) later) where
    -- as many pairs as came, at most, are new
    most : length before.pairs ≤ length old.pairs + length came
    most = grind (arith, length-map, length-insert_each_most)

    pub IsExtended-put : {after : LinkedMap K V S} → HasPut eq (shows item).0 (shows item).1 before after → IsValid eq after
        → VisitAfterPut before after (value_at eq before.pairs (shows item).0)
        → IsExtended eq shows remaining old start later (came ++ item ∷ []) after
    IsExtended-put {after} put_one valid visit = record {
      inserted = subst (λ items. HasInserted eq old items after)
          (sym (map-append shows came (item ∷ [])))
          (HasInserted-put laws (shows item).0 (shows item).1 distinct so_far.inserted put_one);
      valid = valid;
      bound = AreWithinBound-next can remaining came item so_far.bound goes;
      visit = subst (λ n. LeavesVisit n old after) (sym (length-append came (item ∷ [])))
          (LeavesVisit-put so_far.visit most visit.value (value_at eq before.pairs (shows item).0)
          visit.is visit.ends visit.stands visit.as_many visit.more);
    }

    -- the key of an item that is refused was absent at the start
    pub find-IsExtended_absent : find eq before.pairs (shows item).0 ≡ None → find eq old.pairs (shows item).0 ≡ None
    find-IsExtended_absent absent = grind (arith, find-insert_each_absent)

    -- a map with room for all items is not full as one comes
    pub room-IsExtended : (n : ℕ) → size (remaining start) ≤ n
        → length before.pairs ≡ before.capacity → length old.pairs + n ≤ old.capacity → ⊥
    room-IsExtended n given full fits = grind (arith, most)

    -- up to an item that is refused, with what is left to be visited
    pub InsertsUntil-IsExtended : {T : Type 0} {becomes : T → I → Type 0}
        {steps : I → Option X → I → Type 0} {source : T} → becomes source start
        → YieldsThen steps start came (Some item) later → {after : LinkedMap K V S} → after ≡ before
        → {key : K} {value : V} → key ≡ (shows item).0 → value ≡ (shows item).1
        → (inserts : InsertsUntil becomes steps source eq shows old.mode old.pairs after.pairs key value)
        × LeavesVisit (length inserts.given) old after
    InsertsUntil-IsExtended made gives unchanged key value = (
      grind arith,
      subst (LeavesVisit (length came) old) (sym unchanged) so_far.visit,
    )

-- items that went in, each as the pair that it shows
pub ExtendsWith-shown : {X K V S : Type 0} {eq : K → K → Bool} {old new : LinkedMap K V S} (shows : X → K × V)
    (items : List X) {shown : List (K × V)} → map shows items ≡ shown
    → new.pairs ≡ insert_each eq old.mode old.pairs (map shows items)
    → new.capacity ≡ max old.capacity (length new.pairs)
    → new.rechained ≡ rechained_each old.rechained old.capacity (new.capacity - old.capacity)
    → KeepsSettings old new
    → LeavesVisit (length items) old new → IsValid eq new → ExtendsWith eq old shown new
ExtendsWith-shown shows items are pairs capacity rechained settings visit valid = grind (arith, length-map)

-- a map without pairs has none to visit
pub to_visit-none : {K V S : Type 0} (m : LinkedMap K V S) → m.pairs ≡ [] → to_visit m ≡ []
to_visit-none m none = grind (arith, drop-nil, take-nil)

-- and neither has it once items went in
pub to_visit-LeavesVisit : {K V S : Type 0} {old new : LinkedMap K V S} {n : ℕ} → old.pairs ≡ []
    → length new.pairs ≤ length old.pairs + n → LeavesVisit n old new → to_visit new ≡ []
to_visit-LeavesVisit none most visit = grind (arith, most, eq-or-lt_of_le, to_visit-none)

-- the items went into a new map
pub CollectsInto-ExtendsWith : {K V S : Type 0} {eq : K → K → Bool} {IsDefault : S → Type 0} → IsEquivalence eq
    → {old new : LinkedMap K V S} {items : List (K × V)} → IsNewDefault eq IsDefault old
    → ExtendsWith eq old items new → CollectsInto eq IsDefault items new
CollectsInto-ExtendsWith laws empty into = grind (arith, length-insert_each_most, to_visit-LeavesVisit)
