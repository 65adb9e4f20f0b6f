use Rattle.std.proofs.Common.{ℕ, List, ◌++◌, length}
use Rattle.lhm_commands.specs.{Grammar.words_of, Commands.SpellNumbers, Commands.numbers_of}
use Rattle.lhm_commands.proofs.parser.pairs.Given as goal

-- whatever pairs the rest spells, the whole spells these and then those; and if the whole spells
-- pairs, so does the rest
pub record IsSpelledTo (whole rest : List (List ℕ)) (pairs : List (ℕ × ℕ)) : Type 0 where
  pub spell : (others : List (ℕ × ℕ)) → SpellNumbers rest (numbers_of others) → SpellNumbers whole (numbers_of (pairs ++ others))
  pub spelled : (others : List (ℕ × ℕ)) → SpellNumbers whole (numbers_of others)
      → (left : List (ℕ × ℕ)) × SpellNumbers rest (numbers_of left)

abbrev pub invariant-loop-word : goal.invariant-loop-word
invariant-loop-word l = IsSpelledTo (words_of l.fn.rest) (words_of l.rest) l.pairs.items

abbrev pub decreases-loop-word : goal.decreases-loop-word
decreases-loop-word l = length (words_of l.rest)
