-- What a contract sees of a set.
use Rattle.std.specs.Prelude.{◌≡◌, ℕ, Bool, List, refl}
use Rattle.std.specs.Coded.{Coded, code_by, coded×, coded_list, coded_ℕ}
use Rattle.linked_hash_map.specs.LinkedMap.{LinkedMap}
use Rattle.linked_hash_map.specs.Validity as of_map
use Rattle.linked_hash_map.specs.declared.map.Mode.TheVariants.{Touch}

pub record LinkedSet (T S : Type 0) : Type 0 where
  -- the items, front to back
  pub items : List T
  -- how many items there is room for
  pub capacity : ℕ
  -- what makes a hasher for each item
  pub hasher : S

module _ {T S : Type 0} where
  abbrev pub linked_set : List T → ℕ → S → LinkedSet T S
  linked_set items capacity hasher =
      record { items = items; capacity = capacity; hasher = hasher }

  -- all but the items stays
  pub record Keeps (old new : LinkedSet T S) : Type 0 where
    pub capacity : new.capacity ≡ old.capacity
    pub hasher : new.hasher ≡ old.hasher

  -- private: how a set is kept in a map
  pub record IsKept (eq : T → T → Bool) (m : LinkedMap T Unit S) : Type 0 where
    pub valid : of_map.IsValid eq m
    pub mode : m.mode ≡ Touch

-- a set is stored as its fields
abbrev pub linked_set_code : {T S : Type 0} → Coded T → Coded S → Coded (LinkedSet T S)
linked_set_code {T} {S} item hasher =
    code_by (List T × (ℕ × S)) (coded× (coded_list item) (coded× coded_ℕ hasher))
    (λ s. (s.items, (s.capacity, s.hasher)))
    (λ p. linked_set p.0 p.1.0 p.1.1)
    (λ _. refl)
