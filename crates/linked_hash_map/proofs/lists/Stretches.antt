-- A stretch of a list, by the index where it begins and its length: what a cursor has still to
-- visit.
use Rattle.std.proofs.Common.{◌≡◌, ℕ, zero, suc, ◌+◌, ◌-◌, ◌<◌, ◌≤◌, ◌⊎◌, inl, inr, List, [], ◌∷◌, ◌++◌, length, take, drop, remove}
use Rattle.std.proofs.lemmas.List.{length-drop, length-take, take-append-drop, drop-append-le, take-append-le, drop-set-lt, drop-set-add}
use Rattle.std.proofs.{Common.slice_get, Common.Some, Common.refl, Common.sym, Common.ap, Common.◌∙◌, Common.arith, lemmas.List.take-set-le}
use Rattle.std.specs.Prelude.{slice_set}
use Rattle.lhm_ring.proofs.tables.Positions.{drop-from}

-- it begins with the element at its index
pub stretch-step : {X : Type 0} (xs : List X) (index n : ℕ) (x : X) → slice_get xs index ≡ Some x
    → 0 < n → take n (drop index xs) ≡ x ∷ take (n - 1) (drop (index + 1) xs)
stretch-step xs index zero x there h = absurd (omega arith)
stretch-step xs index (suc n) x there h = let first = drop-from xs index there in grind arith

module _ {X : Type 0} where
  pub take-none : (xs : List X) → take 0 xs ≡ []
  take-none xs = grind arith

  -- one that ends within the first elements
  pub stretch-front : (xs ys : List X) (b n : ℕ) → b + n ≤ length xs → take n (drop b (xs ++ ys)) ≡ take n (drop b xs)
  stretch-front xs ys b n within = grind (arith, length-drop, drop-append-le, take-append-le)

  drop-removed : (xs : List X) (i b : ℕ) → i ≤ b → drop b (remove xs i) ≡ drop (suc b) xs
  drop-removed [] zero zero h = refl
  drop-removed [] zero (suc b) h = refl
  drop-removed [] (suc i) zero h = refl
  drop-removed [] (suc i) (suc b) h = refl
  drop-removed (x ∷ xs) zero b h = refl
  drop-removed (x ∷ xs) (suc i) zero h = absurd (omega (arith, h))
  drop-removed (x ∷ xs) (suc i) (suc b) h = drop-removed xs i b (omega (arith, h))

  -- one that begins behind an element that is removed, or ends before it
  pub stretch-removed : (xs : List X) (i : ℕ) {b a : ℕ} (n : ℕ) → i < length xs → ((i < b) × (a + 1 ≡ b)) ⊎ ((b + n ≤ i) × (a ≡ b))
      → take n (drop a (remove xs i)) ≡ take n (drop b xs)
  stretch-removed xs i {b} {a} n within (inl behind) =
      let next : suc a ≡ b = omega (arith, behind.1) in
      ap (take n) (drop-removed xs i a (omega (arith, behind.0, behind.1))) ∙ ap (λ m. take n (drop m xs)) next
  stretch-removed xs i {b} {a} n within (inr before) =
      let first = length-take i xs in
      ap (λ m. take n (drop m (remove xs i))) before.1
      ∙ stretch-front (take i xs) (drop (suc i) xs) b n (omega (arith, first, within, before.0))
      ∙ sym (stretch-front (take i xs) (drop i xs) b n (omega (arith, first, within, before.0)))
      ∙ ap (λ ys. take n (drop b ys)) (take-append-drop i xs)

  -- one that ends before an element that is set, or begins behind it
  pub stretch-set : (xs : List X) (index start n : ℕ) (x : X) → (index < start) ⊎ (start + n ≤ index)
      → take n (drop start (slice_set xs index x)) ≡ take n (drop start xs)
  stretch-set xs index start n x (inl behind) = ap (take n) (drop-set-lt start xs index x behind)
  stretch-set xs index start n x (inr before) =
      let at : start + (index - start) ≡ index = omega (arith, before) in
      grind (arith, drop-set-add, take-set-le)
