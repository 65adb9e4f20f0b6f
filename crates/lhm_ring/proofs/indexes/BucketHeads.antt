-- The heads and the words of the buckets.
use Rattle.lhm_ring.proofs.Names.{BitsHaveChains, InBlock, List, None, Option, Ptr, Some, Testable, [], ap, arith, block_ptr, cases_eq}
use Rattle.lhm_ring.proofs.Names.{get_or, get_or-set_other, get_or-set_same, inl, inr, is_null_or_block, led_to, length, map, null_ptr}
use Rattle.lhm_ring.proofs.Names.{refl, set, suc, sym, true, zero, ℕ, ◌++◌, ◌+◌, ◌<◌, ◌∙◌, ◌∷◌, ◌≡◌, ◌≢◌}

module _ {X Y : Type 0} (f : X → Y) (none : Y) where
  -- one more empty element
  pub get_or-pushed : (xs : List X) (x : X) → f x ≡ none → ((b : ℕ) → get_or (map f xs) b none ≡ none) → (b : ℕ)
      → get_or (map f (xs ++ x ∷ [])) b none ≡ none
  get_or-pushed [] x e a zero = e
  get_or-pushed [] x e a (suc b) = refl
  get_or-pushed (y ∷ xs) x e a zero = a 0
  get_or-pushed (y ∷ xs) x e a (suc b) = get_or-pushed xs x e (λ c. a (suc c)) b

  -- one more element is emptied
  pub get_or-cleared : (xs : List X) (i : ℕ) (x : X) → f x ≡ none → ((b : ℕ) → b < i → get_or (map f xs) b none ≡ none)
      → (b : ℕ) → b < i + 1 → get_or (map f (set xs i x)) b none ≡ none
  get_or-cleared [] i x e a b l = refl
  get_or-cleared (y ∷ xs) zero x e a zero l = e
  get_or-cleared (y ∷ xs) zero x e a (suc b) l = absurd (omega (arith, l))
  get_or-cleared (y ∷ xs) (suc i) x e a zero l = a 0 (omega arith)
  get_or-cleared (y ∷ xs) (suc i) x e a (suc b) l = get_or-cleared xs i x e (λ c m. a (suc c) (omega (arith, m))) b (omega (arith, l))

-- past the last element lies what stands for none
pub get_or-everywhere : {X : Type 0} (none : X) (xs : List X) → ((b : ℕ) → b < length xs → get_or xs b none ≡ none)
    → (b : ℕ) → get_or xs b none ≡ none
get_or-everywhere none [] a b = refl
get_or-everywhere none (x ∷ xs) a zero = a 0 (omega arith)
get_or-everywhere none (x ∷ xs) a (suc b) = get_or-everywhere none xs (λ c l. a (suc c) (omega (arith, l))) b

-- a bucket has a new head, and its bits are cleared if that leads nowhere
pub BitsHaveChains-set : (heads : List (Option Ptr)) (words : List ℕ) (bucket : ℕ) (head : Option Ptr) (new : List ℕ)
    → bucket < length heads → ((b : ℕ) → b ≢ bucket → get_or new b 0 ≡ get_or words b 0)
    → (head ≡ None → get_or new bucket 0 ≡ 0) → BitsHaveChains heads words → BitsHaveChains (set heads bucket head) new
BitsHaveChains-set heads words bucket head new l others own bits b none =
    elim (cases_eq b bucket) [
      | inl here ↦ ap (λ c. get_or new c 0) here ∙ own (grind (arith, get_or-set_same))
      | inr away ↦ others b away ∙ bits b (sym (get_or-set_other heads bucket b head None away) ∙ none)
    ]

-- what may be compared with null, and where it leads
pub Testable-null_or_block : (p : Ptr) → is_null_or_block p ≡ true → Testable p
Testable-null_or_block p e = grind arith

pub led_to-in_block : (p : Ptr) → InBlock p → led_to p ≡ Some p
led_to-in_block (block_ptr b o) t = refl
led_to-in_block null_ptr t = absurd t
