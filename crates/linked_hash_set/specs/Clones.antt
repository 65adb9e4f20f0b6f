-- What a clone of a set is.
use Rattle.std.specs.Prelude.{◌≡◌, Bool, IsTrue, List, [], length}
use Rattle.std.specs.List.{AllZip}
use Rattle.linked_hash_set.specs.Inserts.{insert_each}
use Rattle.linked_hash_set.specs.LinkedSet.{LinkedSet}
use Rattle.linked_hash_set.specs.Validity.{IsValid}

-- a set t has clones of the items of a set s, inserted in order, room for as many, and a clone of
-- the hasher
pub record IsClone {T S : Type 0} (eq : T → T → Bool) (IsItemClone : T → T → Type 0)
    (IsHasherClone : S → S → Type 0) (s t : LinkedSet T S) : Type 0 where
  pub items : (clones : List T) × AllZip IsItemClone s.items clones
      × (t.items ≡ insert_each eq [] clones)
  pub capacity : t.capacity ≡ length s.items
  pub hasher : IsHasherClone s.hasher t.hasher
  pub valid : IsValid eq t
  -- if a clone of an item is the same item, its list is the clones in order
  pub in_order : ((x clone : T) → IsItemClone x clone → IsTrue (eq x clone))
      → AllZip IsItemClone s.items t.items
  -- if clones are the same items, its list is the same
  pub same_items : ((x clone : T) → IsItemClone x clone → clone ≡ x) → t.items ≡ s.items
