-- Lines, words and numbers in bytes.
use Rattle.std.specs.Prelude.{ℕ, ◌<◌, ◌^◌, ◌≡◌, ◌==◌, ◌||◌, Bool, false, not, cond, List, [], ◌∷◌}
use Rattle.std.specs.Str.Parse.{IsNumeral, digits_value}

-- a byte in front of the first of some texts, or alone if there is none
abbrev pub onto_first : ℕ → List (List ℕ) → List (List ℕ)
onto_first b [] = (b ∷ []) ∷ []
onto_first b (t ∷ ts) = (b ∷ t) ∷ ts

-- the byte 10 ends a line; the bytes after the last such byte are a line if there are any
abbrev pub lines_of : List ℕ → List (List ℕ)
lines_of [] = []
lines_of (b ∷ bs) = cond (b == 10) ([] ∷ lines_of bs) (onto_first b (lines_of bs))

-- a byte that separates words
abbrev pub is_separator : ℕ → Bool
is_separator b = (b == 32) || (b == 9) || (b == 13)

-- the text begins inside a word
abbrev pub begins_in_word : List ℕ → Bool
begins_in_word [] = false
begins_in_word (b ∷ bs) = not (is_separator b)

-- the words of a line, in order
abbrev pub words_of : List ℕ → List (List ℕ)
words_of [] = []
words_of (b ∷ bs) = cond (is_separator b) (words_of bs)
    (cond (begins_in_word bs) (onto_first b (words_of bs)) ((b ∷ []) ∷ words_of bs))

-- the word is a number: digits alone, leading zeros among them, with a value that fits in 64 bits
abbrev pub IsNumber : List ℕ → Type 0
IsNumber word = IsNumeral 10 word × (digits_value 10 word < 2 ^ 64)

-- the word spells the number n
abbrev pub SpellsNumber : List ℕ → ℕ → Type 0
SpellsNumber word n = IsNumber word × (digits_value 10 word ≡ n)
