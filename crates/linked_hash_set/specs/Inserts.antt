-- An insertion, a refresh, and insertions one after another, of what an iterator gives.
use Rattle.std.specs.Prelude.{◌≡◌, Bool, true, false, List, [], fold, length, max, Option}
use Rattle.linked_hash_map.specs.Inserts.{GivesAll, GivesThen}
use Rattle.linked_hash_set.specs.Items.{contains, to_back, to_back_as_is}
use Rattle.linked_hash_set.specs.LinkedSet.{LinkedSet}
use Rattle.linked_hash_set.specs.Validity.{IsValid}

-- the set with x at the back, which is the stored item, or x if there is none, and room for it
abbrev pub inserted : {T S : Type 0} → (T → T → Bool) → LinkedSet T S → T → LinkedSet T S
inserted eq s x =
    let items = to_back eq s.items x in
    record s { items = items; capacity = max s.capacity (length items) }

-- the set with the item that x looks up at the back, if there is one
abbrev pub refreshed : {A T S : Type 0} → (A → T → Bool) → LinkedSet T S → A → LinkedSet T S
refreshed eq s x = record s { items = to_back_as_is eq s.items x }

-- the item that x looks up is at the back, or if there is none, one made of x went in
module _ {A T S : Type 0} (looks_up : A → T → Bool) (eq : T → T → Bool) (IsMade : T → Type 0)
    (x : A) (old new : LinkedSet T S) where
  abbrev pub RefreshedOrMade : Type 0
  RefreshedOrMade =
      (contains looks_up old.items x ≡ true → new ≡ refreshed looks_up old x)
      × (contains looks_up old.items x ≡ false
      → (made : T) × IsMade made × (new ≡ inserted eq old made))

-- the items once others went in one by one
abbrev pub insert_each : {T : Type 0} → (T → T → Bool) → List T → List T → List T
insert_each eq items given = fold (to_back eq) items given

-- a set is empty, and has no room
pub record IsNew {T S : Type 0} (eq : T → T → Bool) (s : LinkedSet T S) : Type 0 where
  pub items : s.items ≡ []
  pub capacity : s.capacity ≡ 0
  pub valid : IsValid eq s

-- a new set has the default hasher of its type
pub record IsNewDefault {T S : Type 0} (eq : T → T → Bool) (IsDefault : S → Type 0)
    (s : LinkedSet T S) : Type 0 where
  pub is_new : IsNew eq s
  pub hasher : IsDefault s.hasher

-- the items went one by one into a new set with the default hasher of its type, which has room for
-- no more
pub record CollectsInto {T S : Type 0} (eq : T → T → Bool) (IsDefault : S → Type 0)
    (given : List T) (new : LinkedSet T S) : Type 0 where
  pub items : new.items ≡ insert_each eq [] given
  pub capacity : new.capacity ≡ length new.items
  pub hasher : IsDefault new.hasher
  pub valid : IsValid eq new

-- given what becomes an iterator, and the steps of that iterator
module _ {U I T : Type 0} (becomes : U → I → Type 0) (steps : I → Option T → I → Type 0)
    (source : U) (eq : T → T → Bool) where
  -- it gives items, and then this one, which is the same as none of them
  pub record GivesThenNew (item : T) : Type 0 where
    pub given : List T
    pub gives : GivesThen becomes steps source given item
    pub absent : contains eq given item ≡ false

-- and what the items were and are
module _ {U I T : Type 0} (becomes : U → I → Type 0) (steps : I → Option T → I → Type 0)
    (source : U) (eq : T → T → Bool) (old new : List T) where
  -- all items that it gives went in one by one
  pub record InsertsAll : Type 0 where
    pub given : List T
    pub gives : GivesAll becomes steps source given
    pub items : new ≡ insert_each eq old given

  -- items that it gives went in one by one, up to this one
  pub record InsertsUntil (item : T) : Type 0 where
    pub given : List T
    pub gives : GivesThen becomes steps source given item
    pub items : new ≡ insert_each eq old given
