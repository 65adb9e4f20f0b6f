-- Words that spell numbers.
use Rattle.std.proofs.Common.{ℕ, ◌≡◌, ◌≢◌, ◌<◌, List, [], ◌∷◌, length, refl, sym, ap, ◌∙◌, arith}
use Rattle.lhm_commands.specs.{Grammar.SpellsNumber, Commands.SpellNumbers, Commands.StartWithNumber, Commands.numbers_of}

-- one number more
pub SpellNumbers-cons : (words others : List (List ℕ)) (n : ℕ) (ns : List ℕ) → StartWithNumber words n others
    → SpellNumbers others ns → SpellNumbers words (n ∷ ns)
SpellNumbers-cons [] others n ns starts spell = absurd starts
SpellNumbers-cons (word ∷ words) others n ns starts spell = (starts.0, rw starts.1 spell)

-- all numbers but the first
pub SpellNumbers-rest : (words others : List (List ℕ)) (m n : ℕ) (ns : List ℕ) → StartWithNumber words m others
    → SpellNumbers words (n ∷ ns) → SpellNumbers others ns
SpellNumbers-rest [] others m n ns starts spell = absurd starts
SpellNumbers-rest (word ∷ words) others m n ns starts spell = rw starts.1 at spell.1

-- no number
pub SpellNumbers-nil : (words : List (List ℕ)) → SpellNumbers words [] → words ≡ []
SpellNumbers-nil [] spell = refl
SpellNumbers-nil (word ∷ words) spell = absurd spell

-- the first number
pub StartWithNumber-first : (words : List (List ℕ)) (n : ℕ) (ns : List ℕ) → SpellNumbers words (n ∷ ns)
    → (others : List (List ℕ)) × StartWithNumber words n others
StartWithNumber-first [] n ns spell = absurd spell
StartWithNumber-first (word ∷ words) n ns spell = (words, (spell.0, refl))

-- the pairs that words spell after the first two numbers of the words before them
pub numbers_of-left : {words : List (List ℕ)} (middle others : List (List ℕ)) (k v : ℕ) (pairs : List (ℕ × ℕ)) → words ≢ []
    → StartWithNumber words k middle → StartWithNumber middle v others → SpellNumbers words (numbers_of pairs)
    → (left : List (ℕ × ℕ)) × SpellNumbers others (numbers_of left)
numbers_of-left {words = words} middle others k v [] some first second spell = absurd (some (SpellNumbers-nil words spell))
numbers_of-left {words = words} middle others k v (pair ∷ pairs) some first second spell =
    let rest = SpellNumbers-rest words middle k pair.0 (pair.1 ∷ numbers_of pairs) first spell in
    (pairs, SpellNumbers-rest middle others v pair.1 (numbers_of pairs) second rest)

-- words that spell pairs start with a number, if there are any
pub StartWithNumber-pairs : (words : List (List ℕ)) (pairs : List (ℕ × ℕ)) → words ≢ [] → SpellNumbers words (numbers_of pairs)
    → (k : ℕ) × (others : List (List ℕ)) × StartWithNumber words k others
StartWithNumber-pairs words [] some spell = absurd (some (SpellNumbers-nil words spell))
StartWithNumber-pairs words (pair ∷ pairs) some spell =
    let first = StartWithNumber-first words pair.0 (pair.1 ∷ numbers_of pairs) spell in
    (pair.0, first.0, first.1)

-- and with a second one
pub StartWithNumber-second : (words middle : List (List ℕ)) (k : ℕ) (pairs : List (ℕ × ℕ)) → words ≢ []
    → StartWithNumber words k middle → SpellNumbers words (numbers_of pairs)
    → (v : ℕ) × (others : List (List ℕ)) × StartWithNumber middle v others
StartWithNumber-second words middle k [] some first spell = absurd (some (SpellNumbers-nil words spell))
StartWithNumber-second words middle k (pair ∷ pairs) some first spell =
    let rest = SpellNumbers-rest words middle k pair.0 (pair.1 ∷ numbers_of pairs) first spell in
    let second = StartWithNumber-first middle pair.1 (numbers_of pairs) rest in
    (pair.1, second.0, second.1)

-- there are fewer words after a number
pub length-after : (words others : List (List ℕ)) (n : ℕ) → StartWithNumber words n others → length others < length words
length-after [] others n first = absurd first
length-after (word ∷ words) others n first = let same = ap length first.1 in omega (arith, same)

-- words of which the first was split off
module _ (words others : List (List ℕ)) (word : List ℕ) (split : words ≡ word ∷ others) where
  pub words-some : words ≢ []
  words-some none = let same = ap length (sym none ∙ split) in omega (arith, same)

  pub StartWithNumber-split : (n : ℕ) → SpellsNumber word n → StartWithNumber words n others
  StartWithNumber-split n spells = rw split (spells, refl)

  pub SpellsNumber-split : (n : ℕ) (rest : List (List ℕ)) → StartWithNumber words n rest → SpellsNumber word n
  SpellsNumber-split n rest starts = (rw split at starts).0
