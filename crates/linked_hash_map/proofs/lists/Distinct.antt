-- Lists without repetitions.
use Rattle.std.proofs.Common.{◌≡◌, ℕ, zero, suc, Bool, false, ◌||◌, List, [], ◌∷◌, ◌++◌, IsTrue, remove, refl, ap, ◌∙◌, arith}
use Rattle.std.specs.{List.list_any, List.IsDistinct, List.AllByRecursion, Cmp.IsEquivalence}
use Rattle.lhm_ring.proofs.lists.ForAll.{AllByRecursion-map}

-- keys of which all differ from one differ from what is the same as it
pub none_from_all : {K : Type 0} (test : K → Bool) (ks : List K) → AllByRecursion (λ y. test y ≡ false) ks → list_any test ks ≡ false
none_from_all test [] h = refl
none_from_all test (k ∷ ks) h = ap (λ b. b || list_any test ks) h.0 ∙ none_from_all test ks h.1

pub all_removed : {K : Type 0} (P : K → Type 0) (ks : List K) (i : ℕ) → AllByRecursion P ks → AllByRecursion P (remove ks i)
all_removed P [] zero h = tt
all_removed P [] (suc i) h = tt
all_removed P (k ∷ ks) zero h = h.1
all_removed P (k ∷ ks) (suc i) h = (h.0, all_removed P ks i h.1)

-- keys that differ still do when one goes
pub distinct_removed : {K : Type 0} (eq : K → K → Bool) (ks : List K) (i : ℕ) → IsDistinct eq ks → IsDistinct eq (remove ks i)
unfolding IsDistinct
distinct_removed eq [] zero h = h
distinct_removed eq [] (suc i) h = h
distinct_removed eq (k ∷ ks) zero h = h.1
distinct_removed eq (k ∷ ks) (suc i) h = (all_removed (λ y. eq k y ≡ false) ks i h.0, distinct_removed eq ks i h.1)

all_init : {K : Type 0} (P : K → Type 0) (ks : List K) (k : K) → AllByRecursion P (ks ++ k ∷ []) → AllByRecursion P ks × P k
all_init P [] k h = (tt, h.0)
all_init P (q ∷ ks) k h = let r = all_init P ks k h.1 in ((h.0, r.0), r.1)

-- keys that differ, one of them last
pub distinct_last : {K : Type 0} {eq : K → K → Bool} → IsEquivalence eq → (ks : List K) (k : K)
    → IsDistinct eq (ks ++ k ∷ []) → IsDistinct eq ks × (list_any (eq k) ks ≡ false)
unfolding IsDistinct
distinct_last laws [] k h = (tt, refl)
distinct_last {K} {eq} laws (q ∷ ks) k h = let a = all_init (λ y. eq q y ≡ false) ks k h.0 in grind (arith, distinct_last laws ks k h.1)

-- an element is replaced
pub AllByRecursion-replaced : {X : Type 0} (P : X → Type 0) (xs : List X) {x y : X} (ys : List X) → (P x → P y)
    → AllByRecursion P (xs ++ x ∷ ys) → AllByRecursion P (xs ++ y ∷ ys)
AllByRecursion-replaced P [] ys f h = (f h.0, h.1)
AllByRecursion-replaced P (z ∷ xs) ys f h = (h.0, AllByRecursion-replaced P xs ys f h.1)

-- keys that differ still do if one is replaced by one that is the same
pub IsDistinct-replaced : {K : Type 0} {eq : K → K → Bool} → IsEquivalence eq → (xs : List K) {k stored : K}
    (ys : List K) → IsTrue (eq k stored) → IsDistinct eq (xs ++ stored ∷ ys) → IsDistinct eq (xs ++ k ∷ ys)
unfolding IsDistinct
IsDistinct-replaced {K} {eq} laws [] {k} {stored} ys same h =
    (AllByRecursion-map (λ y. eq stored y ≡ false) (λ y. eq k y ≡ false) (λ y apart. laws.congr k stored y same ∙ apart) ys h.0, h.1)
IsDistinct-replaced {K} {eq} laws (q ∷ xs) {k} {stored} ys same h = (
  AllByRecursion-replaced (λ y. eq q y ≡ false) xs ys
      (λ apart. laws.symm q k ∙ laws.congr k stored q same ∙ laws.symm stored q ∙ apart) h.0,
  IsDistinct-replaced laws xs ys same h.1,
)
