-- A key that a lookup does not find.
use Rattle.linked_hash_map.proofs.Names.{Bool, IsTrue, List, None, [], ap, arith, eq-eqb, eqb, false, refl, ℕ, ◌&&◌, ◌||◌, ◌∙◌, ◌∷◌, ◌≡◌}
use Rattle.linked_hash_map.proofs.Names.{Held, LacksKey, hash_by, bare, pairs_of, find, AllByRecursion, list_any, keys_of}
use Rattle.linked_hash_map.proofs.pairs.Calls.{lookup_entry-none}

-- no node with the hash of a key has that key
module _ {A K V : Type 0} (eq : A → K → Bool) (hash_of : A → ℕ) (hash : K → ℕ)
    (respects : (x : A) (y : K) → IsTrue (eq x y) → hash_of x ≡ hash y) (k : A) {n : ℕ}
    (is : n ≡ hash_of k) where
  eq-other_hash : (t : Held (K × V)) → t.hash ≡ hash t.pair.0 → false ≡ (eqb t.hash n && eq k t.pair.0) → (b : Bool) → eq k t.pair.0 ≡ b
      → eq k t.pair.0 ≡ false
  eq-other_hash t h none b differs = grind (arith, eq-eqb)

  list_any-LacksKey : (hs : List (Held (K × V))) → AllByRecursion (λ u. u.hash ≡ hash u.pair) (bare hs) → LacksKey (eq k) n hs
      → list_any (eq k) (keys_of (pairs_of hs)) ≡ false
  list_any-LacksKey [] h none = refl
  list_any-LacksKey (t ∷ hs) h none =
      ap (λ b. b || list_any (eq k) (keys_of (pairs_of hs))) (eq-other_hash t h.0 (none [] t hs refl) (eq k t.pair.0) refl)
      ∙ list_any-LacksKey hs h.1 (λ xs x ys e. none (t ∷ xs) x ys (ap (λ l. t ∷ l) e))

-- what looks up a key has the hash of the key, if the two are hashed by the same
pub hash_by-respects : {A K S H : Type 0} {eq : A → K → Bool} {input_of : A → List (List ℕ)}
    {input : K → List (List ℕ)} (finish : H → ℕ) (write : H → List ℕ → H) (build : S → H)
    → ((x : A) (y : K) → IsTrue (eq x y) → input_of x ≡ input y) → (hasher : S) (x : A) (y : K)
    → IsTrue (eq x y)
    → hash_by finish write build input_of hasher x ≡ hash_by finish write build input hasher y
hash_by-respects finish write build respects hasher x y same = grind arith

-- so a map of these nodes has no such key
module _ {A K V S : Type 0} {eq : A → K → Bool} {hash_of : S → A → ℕ} {hash : S → K → ℕ}
    (respects : (hasher : S) (x : A) (y : K) → IsTrue (eq x y) → hash_of hasher x ≡ hash hasher y) where
  pub find-LacksKey : (hasher : S) (k : A) {n : ℕ} → n ≡ hash_of hasher k → (hs : List (Held (K × V)))
      → AllByRecursion (λ u. u.hash ≡ hash hasher u.pair) (bare hs) → LacksKey (eq k) n hs → find eq (pairs_of hs) k ≡ None
  find-LacksKey hasher k is hs hashed none = lookup_entry-none (eq k) (pairs_of hs)
      (list_any-LacksKey eq (hash_of hasher) (hash hasher) (respects hasher) k is hs hashed none)
