-- reading a number digit by digit
use Rattle.std.proofs.Common.{ℕ, ◌<◌, ◌≤◌, ◌≡◌, ◌+◌, ◌*◌, ◌^◌, List, length, take, get_or, arith, lit≤}
use Rattle.std.proofs.lemmas.Str.Parse.{digit_at, digits_value-take-le, tells_by_index, numerals_by_value}
use Rattle.std.proofs.lemmas.{Str.digit_value_digit, Int.Digits.digits_value_more}
use Rattle.std.specs.{Int.IsInRange, Int.IsOutOfRange, Str.Parse.digits_value}
use Rattle.lhm_commands.specs.Grammar.{IsNumber}

-- a byte that is no digit
pub no_digit : (word : List ℕ) (i : ℕ) → i < length word → IsOutOfRange 48 57 (get_or word i 0) → ¬ IsNumber word
no_digit word i l out = λ (says : IsNumber word).
    let r : IsInRange 48 57 (get_or word i 0) = digit_at word i says.0.1 l in
    grind (arith, out, r)

-- one digit more
pub one_more : (word : List ℕ) (i value digit : ℕ) → i < length word → IsInRange 48 57 (get_or word i 0)
    → digit + 48 ≡ get_or word i 0 → value ≡ digits_value 10 (take i word)
    → value * 10 + digit ≡ digits_value 10 (take (i + 1) word)
one_more word i value digit l r d e =
    let same = digit_value_digit (get_or word i 0) r in
    rw (digits_value_more 10 word i l, ← e) (omega (arith, same, d))

-- a front whose value does not fit
pub too_large : (word : List ℕ) (i front : ℕ) → front ≡ digits_value 10 (take (i + 1) word) → 2 ^ 64 ≤ front → ¬ IsNumber word
too_large word i front e big = λ (says : IsNumber word).
    let le = digits_value-take-le 10 word (i + 1) (lit≤ tt) in
    let fits = says.1 in
    omega (arith, le, fits, e, big)

-- the whole word
pub whole : (word : List ℕ) (value : ℕ) → 0 < length word → ((k : ℕ) → k < length word → IsInRange 48 57 (get_or word k 0))
    → value ≡ digits_value 10 word → value < 2 ^ 64 → IsNumber word × (value ≡ digits_value 10 word)
whole word value some digits e small =
    let own = numerals_by_value _ tells_by_index in
    let fits : digits_value 10 word < 2 ^ 64 = omega (arith, e, small) in
    (((some, own.to word digits), fits), e)
