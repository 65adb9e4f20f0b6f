-- where a line or a word is cut off
use Rattle.std.proofs.Common.{ℕ, ◌<◌, ◌≤◌, ◌≡◌, suc, zero, ◌==◌, true, false, not, List, [], ◌∷◌, length, take, drop, get_or}
use Rattle.std.proofs.Common.{refl, ap, arith}
use Rattle.lhm_commands.specs.Grammar.{lines_of, words_of, is_separator, begins_in_word}

pub line_cut : (bs : List ℕ) (i : ℕ) → i < length bs → ((k : ℕ) → k < i → (get_or bs k 0 == 10) ≡ false)
    → (get_or bs i 0 == 10) ≡ true → lines_of bs ≡ take i bs ∷ lines_of (drop (suc i) bs)
line_cut [] i h below e = absurd (omega arith)
line_cut (b ∷ bs) zero h below e = rw e refl
line_cut (b ∷ bs) (suc i) h below e =
    let first : (b == 10) ≡ false = below zero (omega arith) in
    let rest = line_cut bs i (omega arith) (λ (k : ℕ) (l : k < i). below (suc k) (omega arith)) e in
    rw (first, rest) refl

pub line_whole : (bs : List ℕ) → 0 < length bs → ((k : ℕ) → k < length bs → (get_or bs k 0 == 10) ≡ false) → lines_of bs ≡ bs ∷ []
line_whole [] h below = absurd (omega arith)
line_whole (b ∷ []) h below =
    let first : (b == 10) ≡ false = below zero (omega arith) in
    rw first refl
line_whole (b ∷ c ∷ bs) h below =
    let first : (b == 10) ≡ false = below zero (omega arith) in
    let rest = line_whole (c ∷ bs) (omega arith) (λ (k : ℕ) (l : k < length (c ∷ bs)). below (suc k) (omega arith)) in
    rw (first, rest) refl

pub separators_skip : (bs : List ℕ) (i : ℕ) → i ≤ length bs → ((k : ℕ) → k < i → is_separator (get_or bs k 0) ≡ true)
    → words_of bs ≡ words_of (drop i bs)
separators_skip bs zero h below = refl
separators_skip [] (suc i) h below = absurd (omega arith)
separators_skip (b ∷ bs) (suc i) h below =
    let first : is_separator b ≡ true = below zero (omega arith) in
    rw first (separators_skip bs i (omega arith) (λ (k : ℕ) (l : k < i). below (suc k) (omega arith)))

pub word_cut : (bs : List ℕ) (i : ℕ) → 0 < i → i < length bs → ((k : ℕ) → k < i → is_separator (get_or bs k 0) ≡ false)
    → is_separator (get_or bs i 0) ≡ true → words_of bs ≡ take i bs ∷ words_of (drop i bs)
word_cut bs zero low h below e = absurd (omega arith)
word_cut [] (suc i) low h below e = absurd (omega arith)
word_cut (b ∷ []) (suc i) low h below e = absurd (omega arith)
word_cut (b ∷ c ∷ bs) (suc zero) low h below e =
    let first : is_separator b ≡ false = below zero (omega arith) in
    let second : is_separator c ≡ true = e in
    rw (first, second) refl
word_cut (b ∷ c ∷ bs) (suc (suc i)) low h below e =
    let first : is_separator b ≡ false = below zero (omega arith) in
    let second : is_separator c ≡ false = below (suc zero) (omega arith) in
    let rest = word_cut (c ∷ bs) (suc i) (omega arith) (omega arith) (λ (k : ℕ) (l : k < suc i). below (suc k) (omega arith)) e in
    let inside : begins_in_word (c ∷ bs) ≡ true = ap not second in
    rw (first, inside, rest) refl

pub word_whole : (bs : List ℕ) → 0 < length bs → ((k : ℕ) → k < length bs → is_separator (get_or bs k 0) ≡ false) → words_of bs ≡ bs ∷ []
word_whole [] h below = absurd (omega arith)
word_whole (b ∷ []) h below =
    let first : is_separator b ≡ false = below zero (omega arith) in
    rw first refl
word_whole (b ∷ c ∷ bs) h below =
    let first : is_separator b ≡ false = below zero (omega arith) in
    let second : is_separator c ≡ false = below (suc zero) (omega arith) in
    let rest = word_whole (c ∷ bs) (omega arith) (λ (k : ℕ) (l : k < length (c ∷ bs)). below (suc k) (omega arith)) in
    let inside : begins_in_word (c ∷ bs) ≡ true = ap not second in
    rw (first, inside, rest) refl
