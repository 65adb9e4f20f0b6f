-- What a clone of a map is.
use Rattle.std.specs.Prelude.{◌≡◌, Bool, IsTrue, List, [], length}
use Rattle.std.specs.List.{AllZip}
use Rattle.linked_hash_map.specs.declared.map.Mode.TheVariants.{Touch}
use Rattle.linked_hash_map.specs.LinkedMap.{LinkedMap}
use Rattle.linked_hash_map.specs.Cursor.{to_visit}
use Rattle.linked_hash_map.specs.Inserts.{insert_each}
use Rattle.linked_hash_map.specs.Validity.{IsValid}

-- these pairs are clones of those, in order
abbrev pub AreClones : {K V : Type 0} → (K → K → Type 0) → (V → V → Type 0) → List (K × V)
    → List (K × V) → Type 0
AreClones IsKeyClone IsValueClone = AllZip (λ p q. IsKeyClone p.0 q.0 × IsValueClone p.1 q.1)

-- a map n has clones of the pairs of a map m, inserted in order, room for as many, a clone of the
-- hasher, its mode, and nothing left to be visited
pub record IsClone {K V S : Type 0} (eq : K → K → Bool) (IsKeyClone : K → K → Type 0)
    (IsValueClone : V → V → Type 0) (IsHasherClone : S → S → Type 0) (m n : LinkedMap K V S) : Type
    0 where
  pub pairs : (clones : List (K × V)) × AreClones IsKeyClone IsValueClone m.pairs clones
      × (n.pairs ≡ insert_each eq Touch [] clones)
  pub capacity : n.capacity ≡ length m.pairs
  pub rechained : n.rechained ≡ 0
  pub hasher : IsHasherClone m.hasher n.hasher
  pub mode : n.mode ≡ m.mode
  pub visit : to_visit n ≡ []
  pub valid : IsValid eq n
  -- if a clone of a key is the same key, its list is the clones in order
  pub in_order : ((k clone : K) → IsKeyClone k clone → IsTrue (eq k clone))
      → AreClones IsKeyClone IsValueClone m.pairs n.pairs
  -- if clones are the same keys and values, its list is the same
  pub same_pairs : ((k clone : K) → IsKeyClone k clone → clone ≡ k)
      → ((v clone : V) → IsValueClone v clone → clone ≡ v) → n.pairs ≡ m.pairs
