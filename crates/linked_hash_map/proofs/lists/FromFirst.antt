-- A list from its first element that passes a test on.
use Rattle.std.proofs.Common.{◌≡◌, Bool, true, false, cond, List, [], ◌∷◌, ◌++◌, map, reverse, refl, sym, ap, ◌∙◌, subst, arith}
use Rattle.std.proofs.Common.{append_assoc}
use Rattle.std.proofs.lemmas.Map.Keys.{IsDistinct-head, IsDistinct-tail, IsDistinct-IsPermutation}
use Rattle.std.proofs.lemmas.{List.map-append, List.reverse-append, List.Sorted.IsPermutation-map, List.Sorted.IsPermutation-reverse}
use Rattle.std.specs.List.{IsDistinct, AllByRecursion}
use Rattle.lhm_ring.proofs.lists.ForAll.{AllByRecursion-right}
use Rattle.linked_hash_map.specs.Pairs.{from_first}

-- an element that differs from all others in what f has of it
module _ {X K : Type 0} {eq : K → K → Bool} (reflexive : (k : K) → eq k k ≡ true) (symmetric : (k q : K) → eq k q ≡ eq q k)
    (f : X → K) where
  pub from_first-own : (xs : List X) (x : X) (ys : List X) → IsDistinct eq (map f (xs ++ x ∷ ys))
      → from_first (λ z. eq (f x) (f z)) (xs ++ x ∷ ys) ≡ x ∷ ys
  from_first-own [] x ys distinct = ap (λ b. cond b (x ∷ ys) (from_first (λ z. eq (f x) (f z)) ys)) (reflexive (f x))
  from_first-own (z ∷ xs) x ys distinct =
      let others = IsDistinct-head eq (f z) (map f (xs ++ x ∷ ys)) distinct in
      let apart = (AllByRecursion-right (λ k. eq (f z) k ≡ false) (map f xs) (f x ∷ map f ys)
      (subst (AllByRecursion (λ k. eq (f z) k ≡ false)) (map-append f xs (x ∷ ys)) others)).0 in
      grind (arith, IsDistinct-tail, from_first-own xs x ys (IsDistinct-tail eq (f z) (map f (xs ++ x ∷ ys)) distinct))

  -- they differ in the reverse list too
  pub IsDistinct-reverse : (xs : List X) → IsDistinct eq (map f xs) → IsDistinct eq (map f (reverse xs))
  IsDistinct-reverse xs = IsDistinct-IsPermutation eq symmetric (map f xs) (map f (reverse xs))
      (IsPermutation-map f xs (reverse xs) (IsPermutation-reverse xs))

-- the reverse of a list that is cut at an element
pub reverse-middle : {X : Type 0} (xs : List X) (x : X) (ys : List X) → reverse (xs ++ x ∷ ys) ≡ reverse ys ++ x ∷ reverse xs
reverse-middle xs x ys =
    reverse-append xs (x ∷ ys) ∙ ap (λ zs. zs ++ reverse xs) (reverse-append (x ∷ []) ys) ∙ append_assoc (reverse ys) (x ∷ []) (reverse xs)

pub map-reverse : {X Y : Type 0} (f : X → Y) (xs : List X) → map f (reverse xs) ≡ reverse (map f xs)
map-reverse f [] = refl
map-reverse f (x ∷ xs) =
    ap (map f) (reverse-append (x ∷ []) xs) ∙ map-append f (reverse xs) (x ∷ []) ∙ ap (λ ys. ys ++ f x ∷ []) (map-reverse f xs)
    ∙ sym (reverse-append (f x ∷ []) (map f xs))
