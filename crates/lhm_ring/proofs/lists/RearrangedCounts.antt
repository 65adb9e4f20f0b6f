-- How many elements pass a test.
use Rattle.std.proofs.Common.{Bool, List, [], arith, cond, false, length, map, refl, true, ◌&&◌, ◌++◌, ◌+◌, ◌∷◌, ◌≡◌}
use Rattle.std.{proofs.lemmas.List.Sums.sum_by-append, proofs.lemmas.List.Sums.sum_by-cons, specs.Prelude.count_by, specs.Prelude.filter}

pub count_by-cons : {X : Type 0} (p : X → Bool) (x : X) (xs : List X) → count_by p (x ∷ xs) ≡ cond (p x) 1 0 + count_by p xs
count_by-cons p x xs = sum_by-cons (λ v. cond (p v) 1 0) x xs

pub count_by-append : {X : Type 0} (p : X → Bool) (xs ys : List X) → count_by p (xs ++ ys) ≡ count_by p xs + count_by p ys
count_by-append p xs ys = sum_by-append (λ v. cond (p v) 1 0) xs ys

pub count_by-filter : {X : Type 0} (p q : X → Bool) (xs : List X) → count_by p (filter q xs) ≡ count_by (λ x. q x && p x) xs
count_by-filter p q [] = refl
count_by-filter p q (x ∷ xs) =
    let a = count_by-cons (λ y. q y && p y) x xs in let i = count_by-filter p q xs in grind (arith, count_by-cons)

pub count_by-map : {X Y : Type 0} (p : Y → Bool) (f : X → Y) (xs : List X) → count_by p (map f xs) ≡ count_by (λ x. p (f x)) xs
count_by-map p f [] = refl
count_by-map p f (x ∷ xs) =
    let a = count_by-cons (λ y. p (f y)) x xs in let i = count_by-map p f xs in omega (arith, count_by-cons p (f x) (map f xs))

pub count_by-all : {X : Type 0} (xs : List X) → count_by (λ x. true) xs ≡ length xs
count_by-all [] = refl
count_by-all (x ∷ xs) = let i = count_by-all xs in let c = count_by-cons (λ x. true) x xs in omega arith

-- a test that fails wherever two others fail counts none where they do
pub count_by-none : {X : Type 0} (p q r : X → Bool) → ((x : X) → p x ≡ false → q x ≡ false → r x ≡ false) → (xs : List X)
    → count_by p xs ≡ 0 → count_by q xs ≡ 0 → count_by r xs ≡ 0
count_by-none p q r f [] a b = refl
count_by-none p q r f (x ∷ xs) a b = let g = f x in let i = count_by-none p q r f xs in grind (arith, count_by-cons)
