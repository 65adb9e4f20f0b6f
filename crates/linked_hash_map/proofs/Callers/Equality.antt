-- For callers: what `==` of two maps says of their lists, and clones.
use Rattle.std.proofs.{Common.◌≡◌, Common.Bool, Common.Result, Common.IfOk, Common.arith, lemmas.Slice.Eq.slice_eq-Decides}
use Rattle.std.specs.{Prelude.MatchResult, Bool.Decides, Cmp.IsEquivalence, Cmp.Lexicographic.pointwise}
use Rattle.linked_hash_map.specs.{LinkedMap.LinkedMap, Comparison.same_pair, Clones.IsClone}

module _ {K V : Type 0} {eq : K → K → Bool} {value_eq : V → V → Bool} where
  same_pair-Decides : ((a b : K) → Decides (eq a b) (a ≡ b)) → ((a b : V) → Decides (value_eq a b) (a ≡ b)) → (p q : K × V)
      → Decides (same_pair eq value_eq p q) (p ≡ q)
  same_pair-Decides keys values p q = grind arith

  -- if `==` of keys and of values decides `≡`, that of maps decides it of their lists
  pub eq-Decides : {S : Type 0} (m n : LinkedMap K V S) (r : Bool) → ((a b : K) → Decides (eq a b) (a ≡ b))
      → ((a b : V) → Decides (value_eq a b) (a ≡ b)) → r ≡ pointwise (same_pair eq value_eq) m.pairs n.pairs → Decides r (m.pairs ≡ n.pairs)
  eq-Decides m n r keys values told = slice_eq-Decides (same_pair-Decides keys values) m.pairs n.pairs r told

-- if clones of keys and values are what they were made from, a clone has the same list
pub pairs-clone : {K V S : Type 0} {eq : K → K → Bool} → IsEquivalence eq
    → {IsKeyClone : K → K → Type 0} {IsValueClone : V → V → Type 0} {IsHasherClone : S → S → Type 0}
    → ((k clone : K) → IsKeyClone k clone → clone ≡ k) → ((v clone : V) → IsValueClone v clone → clone ≡ v) → {m n : LinkedMap K V S}
    → IsClone eq IsKeyClone IsValueClone IsHasherClone m n → n.pairs ≡ m.pairs
pairs-clone laws keys values cloned = cloned.same_pairs keys values

-- the same of what `clone` returns
pub pairs-cloned : {K V S E : Type 0} {eq : K → K → Bool} → IsEquivalence eq → {IsKeyClone : K → K → Type 0} {IsValueClone : V → V → Type 0}
    → (IsHasherClone : S → S → Type 0) → ((k clone : K) → IsKeyClone k clone → clone ≡ k)
    → ((v clone : V) → IsValueClone v clone → clone ≡ v) → (m : LinkedMap K V S) (cloned : Result (LinkedMap K V S) E) (failed : E → Type 0)
    → MatchResult cloned (IsClone eq IsKeyClone IsValueClone IsHasherClone m) failed → IfOk cloned (λ n. n.pairs ≡ m.pairs)
pairs-cloned laws IsHasherClone keys values m clone failed cloned = grind (arith, pairs-clone)
