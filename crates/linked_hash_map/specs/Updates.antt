-- What a call changes at one key.
use Rattle.std.specs.Prelude.{◌≡◌, Bool, false, List, Option, option_map}
use Rattle.std.specs.Map.{lookup_entry}
use Rattle.linked_hash_map.specs.Pairs.{value_at}

-- after the call the key that passes a test has this value, or none, and each other key has what it
-- had before
pub record UpdatesBy {K V : Type 0} (eq : K → K → Bool) (before after : List (K × V))
    (is_key : K → Bool) (value : Option V) : Type 0 where
  pub here : option_map (λ pair. pair.1) (lookup_entry is_key after) ≡ value
  pub others : (q : K) → is_key q ≡ false → value_at eq after q ≡ value_at eq before q

-- the same of k
abbrev pub Updates : {K V : Type 0} → (K → K → Bool) → List (K × V) → List (K × V) → K → Option V
    → Type 0
Updates eq before after k value = UpdatesBy eq before after (eq k) value
