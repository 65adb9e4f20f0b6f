-- The first line of bytes.
use Rattle.std.proofs.Common.{ℕ, suc, ◌≡◌, ◌<◌, ◌-◌, ◌==◌, Bool, true, false, cond, List, [], ◌∷◌, length, take, Option, None, Some, refl}
use Rattle.std.proofs.{Common.sym, Common.ap, Common.◌∙◌, Common.subst, Common.arith, lemmas.Bool.lt-ltb}
use Rattle.std.specs.Prelude.{slice_index, nat_lt, IfSome}
use Rattle.std.specs.Io.BufRead.{take_through, drop_through, strip_last, DropsThrough}
use Rattle.dedup_lines.specs.Lines.{lines_of, onto_first, TakesLines}

strip_last-cons : (b : ℕ) (bs : List ℕ) → 0 < length bs → strip_last 10 (b ∷ bs) ≡ b ∷ strip_last 10 bs
strip_last-cons b [] some = absurd (omega arith)
strip_last-cons b (c ∷ bs) longer =
    let back : length (b ∷ c ∷ bs) - 1 ≡ suc (length (c ∷ bs) - 1) = omega arith in
    let some_more : nat_lt 0 (length (b ∷ c ∷ bs)) ≡ true = lt-ltb 0 (length (b ∷ c ∷ bs)) (omega arith) in
    let some : nat_lt 0 (length (c ∷ bs)) ≡ true = lt-ltb 0 (length (c ∷ bs)) (omega arith) in
    rw (some_more, some, back) (by_test (slice_index (c ∷ bs) (length (c ∷ bs) - 1) == 10))
  where
    by_test : (t : Bool) → cond t (b ∷ take (length (c ∷ bs) - 1) (c ∷ bs)) (b ∷ c ∷ bs) ≡ b ∷ cond t
        (take (length (c ∷ bs) - 1) (c ∷ bs)) (c ∷ bs)
    by_test true = refl
    by_test false = refl

some-take_through : (b : ℕ) (bs : List ℕ) → 0 < length (take_through 10 (b ∷ bs))
some-take_through b bs = by_test (b == 10)
  where
    by_test : (t : Bool) → 0 < length (cond t (b ∷ []) (b ∷ take_through 10 bs))
    by_test true = omega arith
    by_test false = omega arith

lines_of-first : (bs : List ℕ) → 0 < length (take_through 10 bs)
    → lines_of bs ≡ strip_last 10 (take_through 10 bs) ∷ lines_of (drop_through 10 bs)
lines_of-first [] some = absurd (omega arith)
lines_of-first (b ∷ []) some = by_test (b == 10) refl
  where
    by_test : (t : Bool) → (b == 10) ≡ t → lines_of (b ∷ []) ≡ strip_last 10 (take_through 10 (b ∷ [])) ∷ lines_of
        (drop_through 10 (b ∷ []))
    by_test true is = rw is (ap (λ t. cond t [] (b ∷ []) ∷ []) (sym is))
    by_test false is = rw is (ap (λ t. cond t [] (b ∷ []) ∷ []) (sym is))
lines_of-first (b ∷ c ∷ bs) some = by_test (b == 10) refl (lines_of-first (c ∷ bs) (some-take_through c bs))
  where
    by_test : (t : Bool) → (b == 10) ≡ t → lines_of (c ∷ bs) ≡ strip_last 10 (take_through 10 (c ∷ bs)) ∷ lines_of
        (drop_through 10 (c ∷ bs)) → lines_of (b ∷ c ∷ bs) ≡ strip_last 10 (take_through 10 (b ∷ c ∷ bs)) ∷ lines_of
        (drop_through 10 (b ∷ c ∷ bs))
    by_test true is rest = rw is (ap (λ t. cond t [] (b ∷ []) ∷ lines_of (c ∷ bs)) (sym is))
    by_test false is rest = rw is (ap (onto_first b) rest ∙ ap (λ line. line ∷ lines_of (drop_through 10 (c ∷ bs)))
        (sym (strip_last-cons b (take_through 10 (c ∷ bs)) (some-take_through c bs))))

-- `read_until` took the first line
pub TakesLines-first : (old new : Option (List ℕ)) (line : List ℕ) → 0 < length line → IfSome old (λ xs. line ≡ take_through 10 xs)
    → DropsThrough old new 10 → TakesLines old new (strip_last 10 line ∷ [])
TakesLines-first None new line some begins loses = tt
TakesLines-first (Some xs) new line some begins loses =
    subst (λ o. TakesLines (Some xs) o (strip_last 10 line ∷ [])) (sym loses)
    (subst (λ (l : List ℕ). lines_of xs ≡ strip_last 10 l ∷ lines_of (drop_through 10 xs)) (sym begins)
    (lines_of-first xs (subst (λ (l : List ℕ). 0 < length l) begins some)))
