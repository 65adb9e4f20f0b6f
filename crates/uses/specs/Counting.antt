-- Counts.
use Rattle.std.specs.Prelude.{◌≡◌, ℕ, ◌==◌, ◌+◌, ◌-◌, ◌^◌, ◌%◌, ◌∷◌, [], ◌++◌, min, not, fold, unwrap_or, if◌then◌else◌, Bool, List}
use Rattle.std.specs.List.{count_by, list_any}
use Rattle.linked_hash_map.specs.Pairs.{value_at}

-- the count of a pair is not zero
abbrev pub has_count : {K : Type 0} → K × ℕ → Bool
has_count pair = not (pair.1 == 0)

-- the count of a pair is even
abbrev pub is_even : {K : Type 0} → K × ℕ → Bool
is_even pair = pair.1 % 2 == 0

-- a task once it ran
abbrev pub ran : ℕ × ℕ → ℕ × ℕ
ran task = (task.0, min (task.1 + 1) (2 ^ 64 - 1))

module _ {K : Type 0} (eq : K → K → Bool) where
  -- each word has as its count how often it comes among the words, which is 0 if it has none
  abbrev pub HasCounts : List (K × ℕ) → List K → Type 0
  HasCounts counts words =
      (word : K) → unwrap_or (value_at eq counts word) 0 ≡ count_by (eq word) words

  -- each word once, in the order in which the words first come
  abbrev pub first_seen : List K → List K
  first_seen words =
      fold (λ seen word. if list_any (eq word) seen then seen else seen ++ word ∷ []) [] words

-- how many events of a node a vector clock knows
abbrev pub known : {K : Type 0} → (K → K → Bool) → List (K × ℕ) → K → ℕ
known eq clock node = unwrap_or (value_at eq clock node) 0
