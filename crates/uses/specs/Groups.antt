-- Words grouped by their first letter.
use Rattle.std.specs.Prelude.{◌==◌, ℕ, Bool, false, List, [], filter, option_map, unwrap_or, slice_get, nat_eq}
use Rattle.std.specs.Prelude.{Vec, vec_items}
use Rattle.std.specs.Borrow.{Bor}
use Rattle.std.specs.declared.alloc.Global.{Global}
use Rattle.linked_hash_map.specs.Pairs.{value_at}

-- a word, as it is lent, and groups of them
abbrev pub Word : Type 0
Word = Bor (List ℕ)

abbrev pub Groups : Type 0
Groups = List (ℕ × Vec Word Global)

-- the text begins with the letter
abbrev pub begins : ℕ → List ℕ → Bool
begins letter text = unwrap_or (option_map (λ byte. letter == byte) (slice_get text 0)) false

-- the words that begin with the letter
abbrev pub words_of : ℕ → List Word → List Word
words_of letter words = filter (λ word. begins letter word.now) words

-- the words of a letter, none if it has no group
abbrev pub group_of : Groups → ℕ → List Word
group_of groups letter = unwrap_or (option_map vec_items (value_at nat_eq groups letter)) []
