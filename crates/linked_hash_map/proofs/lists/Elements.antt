-- Lists, cut at an element or with one more at the end.
use Rattle.std.proofs.Common.{◌≡◌, ℕ, ◌+◌, max, Bool, false, cond, ◌||◌, List, [], ◌∷◌, ◌++◌, map, length, Option, Some, None, refl, sym}
use Rattle.std.proofs.Common.{ap, ◌∙◌, arith, append_assoc, append-nil, drop_of_length-le, length-append}
use Rattle.std.proofs.lemmas.{List.reverse-append, List.drop-append-le, List.map-append, List.Sums.suffix_len-le-length}
use Rattle.std.specs.{List.after_last, List.suffix_len, List.prefix_len, List.zip, Option.option_or}
use Rattle.linked_hash_map.specs.{Pairs.first, Pairs.without_first, Log.first_some, Log.last_some, Log.largest, Log.beginnings, Log.moments}

module _ {A : Type 0} (P : List A → Type 0) (step : (xs : List A) (x : A) → P xs → P (xs ++ x ∷ [])) where
  by_last_from : (done xs : List A) → P done → P (done ++ xs)
  by_last_from done [] h = rw append-nil h
  by_last_from done (x ∷ xs) h = rw append_assoc at (by_last_from (done ++ x ∷ []) xs (step done x h))

  -- what holds of the empty list, and goes on to one more element at the end, holds of each list
  pub by_last : P [] → (xs : List A) → P xs
  by_last h xs = by_last_from [] xs h

-- a test that holds of none holds neither of the first nor of the others
pub none_first : (a b : Bool) → (a || b) ≡ false → a ≡ false
none_first a b h = grind arith

pub none_later : (a b : Bool) → (a || b) ≡ false → b ≡ false
none_later a b h = grind arith

-- the first of a list and the others
pub length-first_none : {X : Type 0} (xs : List X) → first xs ≡ None → length xs ≡ 0
length-first_none [] none = refl
length-first_none (x ∷ xs) none = cc

pub cons-without_first : {X : Type 0} (xs : List X) (x : X) → Some x ≡ first xs → x ∷ without_first xs ≡ xs
cons-without_first xs x found = grind arith

module _ {X : Type 0} (p : X → Bool) where
  suffix_len-snoc : (xs : List X) (x : X) → suffix_len p (xs ++ x ∷ []) ≡ cond (p x) (1 + suffix_len p xs) 0
  suffix_len-snoc xs x = ap (prefix_len p) (reverse-append xs (x ∷ []))

module _ {X : Type 0} (p : X → Bool) where
  after_last_at : (xs : List X) (x : X) (b : Bool) → p x ≡ b → after_last p (xs ++ x ∷ []) ≡ cond b [] (after_last p xs ++ x ∷ [])
  after_last_at xs x b e = grind (arith, suffix_len-snoc, length-append, drop_of_length-le, suffix_len-le-length, drop-append-le)

  -- after the last that passes, with one more at the end
  pub after_last-snoc : (xs : List X) (x : X) → after_last p (xs ++ x ∷ []) ≡ cond (p x) [] (after_last p xs ++ x ∷ [])
  after_last-snoc xs x = after_last_at xs x (p x) refl

  pub after_last-more : (xs : List X) (x : X) → p x ≡ false → after_last p (xs ++ x ∷ []) ≡ after_last p xs ++ x ∷ []
  after_last-more xs x h = after_last_at xs x false h

pub option_or_assoc : {Y : Type 0} (a b c : Option Y) → option_or (option_or a b) c ≡ option_or a (option_or b c)
option_or_assoc a b c = grind arith

pub option_or_none : {Y : Type 0} (a : Option Y) → option_or a None ≡ a
option_or_none a = grind arith

module _ {X Y : Type 0} (f : X → Option Y) where
  pub first_some-snoc : (xs : List X) (x : X) → first_some f (xs ++ x ∷ []) ≡ option_or (first_some f xs) (f x)
  first_some-snoc [] x = option_or_none (f x)
  first_some-snoc (y ∷ xs) x = ap (option_or (f y)) (first_some-snoc xs x) ∙ sym (option_or_assoc (f y) (first_some f xs) (f x))

  pub last_some-snoc : (xs : List X) (x : X) → last_some f (xs ++ x ∷ []) ≡ option_or (f x) (last_some f xs)
  last_some-snoc [] x = sym (option_or_none (f x))
  last_some-snoc (y ∷ xs) x = ap (λ o. option_or o (f y)) (last_some-snoc xs x) ∙ option_or_assoc (f x) (last_some f xs) (f y)

pub largest-append : (ms ns : List ℕ) → largest (ms ++ ns) ≡ max (largest ms) (largest ns)
largest-append [] ns = omega arith
largest-append (m ∷ ms) ns = let h = largest-append ms ns in omega arith

pub beginnings-snoc : {X : Type 0} (xs : List X) (x : X) → beginnings (xs ++ x ∷ []) ≡ beginnings xs ++ (xs ++ x ∷ []) ∷ []
beginnings-snoc [] x = refl
beginnings-snoc (y ∷ xs) x = grind (arith, map-append, beginnings-snoc xs x)

zip-map : {A B C : Type 0} (f : A → B) (xs : List A) (ys : List C) → zip (map f xs) ys ≡ map (λ p. (f p.0, p.1)) (zip xs ys)
zip-map f [] ys = refl
zip-map f (x ∷ xs) [] = refl
zip-map f (x ∷ xs) (y ∷ ys) = ap (λ zs. (f x, y) ∷ zs) (zip-map f xs ys)

-- the moments of a list that begins with an element
pub moments-cons : {X : Type 0} (x : X) (xs : List X) → moments (x ∷ xs) ≡ ([], x) ∷ map (λ moment. (x ∷ moment.0, moment.1)) (moments xs)
moments-cons x xs = ap (λ ms. ([], x) ∷ ms) (zip-map (λ b. x ∷ b) (beginnings xs) xs)

-- and of one that ends with it: the whole of the others stands before it
pub moments-snoc : {X : Type 0} (xs : List X) (x : X) → moments (xs ++ x ∷ []) ≡ moments xs ++ (xs, x) ∷ []
moments-snoc [] x = refl
moments-snoc (y ∷ xs) x = grind (arith, moments-cons, map-append, moments-snoc xs x)
