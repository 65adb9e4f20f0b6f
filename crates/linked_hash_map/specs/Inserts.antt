-- Insertions one after another, and what an iterator gives.
use Rattle.std.specs.Prelude.{◌≡◌, ℕ, ◌+◌, ◌-◌, ◌<◌, ◌≤◌, ◌⊎◌, max, Bool, List, [], ◌∷◌, map, length, Option, Some}
use Rattle.std.specs.Iterator.{Count, UpTo, Drains, YieldsThen}
use Rattle.std.specs.Iterator.SizeHint.{IsWithinCount}
use Rattle.linked_hash_map.specs.Changes.{KeepsSettings}
use Rattle.linked_hash_map.specs.LinkedMap.{LinkedMap}
use Rattle.linked_hash_map.specs.Cursor.{to_visit}
use Rattle.linked_hash_map.specs.Counts.{rechained_each}
use Rattle.linked_hash_map.specs.Validity.{IsValid}
use Rattle.linked_hash_map.specs.declared.map.TheConstants.{LIMIT}
use Rattle.linked_hash_map.specs.Pairs.{put}
use Rattle.linked_hash_map.specs.declared.map.Mode.{Mode}
use Rattle.linked_hash_map.specs.declared.map.Mode.TheVariants.{Touch}

-- the pairs once the items went in one by one, in a mode
abbrev pub insert_each : {K V : Type 0} → (K → K → Bool) → Mode → List (K × V) → List (K × V)
    → List (K × V)
insert_each eq mode pairs [] = pairs
insert_each eq mode pairs (item ∷ items) =
    insert_each eq mode (put eq mode pairs item.0 item.1) items

-- what so many insertions leave to be visited: all that was, if each made one pair more, as it does
-- exactly if its key is new; else nothing
pub record LeavesVisit {K V S : Type 0} (insertions : ℕ) (old new : LinkedMap K V S) : Type 0 where
  pub stands : length new.pairs ≡ length old.pairs + insertions → to_visit new ≡ to_visit old
  pub ended : length new.pairs < length old.pairs + insertions → to_visit new ≡ []

-- a map is empty, in `Touch`, and has no room
pub record IsNew {K V S : Type 0} (eq : K → K → Bool) (m : LinkedMap K V S) : Type 0 where
  pub pairs : m.pairs ≡ []
  pub capacity : m.capacity ≡ 0
  pub mode : m.mode ≡ Touch
  pub rechained : m.rechained ≡ 0
  pub valid : IsValid eq m

-- a new map has the default hasher of its type
pub record IsNewDefault {K V S : Type 0} (eq : K → K → Bool) (IsDefault : S → Type 0)
    (m : LinkedMap K V S) : Type 0 where
  pub is_new : IsNew eq m
  pub hasher : IsDefault m.hasher

module _ {K V S : Type 0} (eq : K → K → Bool) where
  -- the items went into a map one by one, in its mode; the capacity was raised as far as need be
  pub record ExtendsWith (old : LinkedMap K V S) (items : List (K × V)) (new : LinkedMap K V S) : Type 0 where
    pub pairs : new.pairs ≡ insert_each eq old.mode old.pairs items
    pub capacity : new.capacity ≡ max old.capacity (length new.pairs)
    pub rechained : new.rechained
        ≡ rechained_each old.rechained old.capacity (new.capacity - old.capacity)
    pub settings : KeepsSettings old new
    pub visit : LeavesVisit (length items) old new
    pub valid : IsValid eq new

  -- the items went one by one into a new map with the default hasher of its type, which has room
  -- for no more
  pub record CollectsInto (IsDefault : S → Type 0) (items : List (K × V)) (new : LinkedMap K V S)
      : Type 0 where
    pub pairs : new.pairs ≡ insert_each eq Touch [] items
    pub capacity : new.capacity ≡ length new.pairs
    pub rechained : new.rechained ≡ rechained_each 0 0 new.capacity
    pub hasher : IsDefault new.hasher
    pub mode : new.mode ≡ Touch
    pub visit : to_visit new ≡ []
    pub valid : IsValid eq new

-- whichever iterator it becomes, that has at most n items left
abbrev pub GivesAtMost : {T I : Type 0} → (T → I → Type 0) → (I → Count) → T → ℕ → Type 0
GivesAtMost {I = I} becomes remaining source n =
    (it : I) → becomes source it → UpTo (remaining it) n

-- given what becomes an iterator, and the steps of that iterator
module _ {T I X : Type 0} (becomes : T → I → Type 0) (steps : I → Option X → I → Type 0)
    (source : T) where
  -- it gives these items, and no more
  pub record GivesAll (given : List X) : Type 0 where
    pub iterator : I
    pub made : becomes source iterator
    pub gives : Drains steps iterator given

  -- it gives these items, and then this one
  pub record GivesThen (given : List X) (item : X) : Type 0 where
    pub iterator : I
    pub left : I
    pub made : becomes source iterator
    pub gives : YieldsThen steps iterator given (Some item) left

  -- and what pair an item shows
  module _ {K V : Type 0} (eq : K → K → Bool) (shows : X → K × V) where
    -- all items that it gives went in one by one, in a mode
    pub record InsertsAll (mode : Mode) (old new : List (K × V)) : Type 0 where
      pub given : List X
      pub gives : GivesAll given
      pub pairs : new ≡ insert_each eq mode old (map shows given)

    -- items that it gives went in one by one, in a mode, up to one that shows this key and this
    -- value
    pub record InsertsUntil (mode : Mode) (old new : List (K × V)) (key : K) (value : V) : Type 0
      where
        pub given : List X
        pub item : X
        pub gives : GivesThen given item
        pub shown : shows item ≡ (key, value)
        pub pairs : new ≡ insert_each eq mode old (map shows given)

-- given what becomes an iterator of pairs, the steps of that iterator, and how many items it has
-- left at most
module _ {T I K V : Type 0} (becomes : T → I → Type 0) (steps : I → Option (K × V) → I → Type 0)
    (source : T) (remaining : I → Count) where
  -- it becomes one iterator: a new map got room for as many pairs as a lower bound that the hint of
  -- this iterator may return, and then all items of this iterator, one by one
  pub record Collects (eq : K → K → Bool) (contents : List (K × V))
      (capacity rechained : ℕ) : Type 0 where
    pub iterator : I
    pub made : becomes source iterator
    pub lower : ℕ
    pub hint : IsWithinCount lower (remaining iterator)
    pub limit : lower ≤ LIMIT
    pub given : List (K × V)
    pub gives : Drains steps iterator given
    pub pairs : contents ≡ insert_each eq Touch [] given
    pub capacity_is : capacity ≡ max lower (length contents)
    pub counted : rechained ≡ rechained_each 0 lower (capacity - lower)

  -- it becomes an iterator whose hint may be a lower bound above `LIMIT`
  pub record HintsAboveLimit : Type 0 where
    pub iterator : I
    pub made : becomes source iterator
    pub lower : ℕ
    pub hint : IsWithinCount lower (remaining iterator)
    pub above : LIMIT < lower

  -- it becomes an iterator whose hint may be a lower bound of at most `LIMIT`, and that bound is
  -- above 0, or this iterator gives an item
  pub record NeedsRoom : Type 0 where
    pub iterator : I
    pub made : becomes source iterator
    pub lower : ℕ
    pub hint : IsWithinCount lower (remaining iterator)
    pub limit : lower ≤ LIMIT
    pub needed : (0 < lower) ⊎ ((item : K × V) × (left : I) × steps iterator (Some item) left)
