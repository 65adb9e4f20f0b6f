-- What the arguments say.
use Rattle.std.specs.Prelude.{ℕ, ◌≡◌, ◌<◌, ◌^◌, List, [], ◌∷◌, codes, map, String, string_bytes}
use Rattle.std.specs.Str.Parse.{IsNumeral, digits_value, without_leading_plus}
use Rattle.std.specs.declared.alloc.Global.{Global}
use Rattle.dedup_lines.specs.declared.keep.Keep.{Keep}
use Rattle.dedup_lines.specs.declared.keep.Keep.TheVariants.{First, Last, Window}

-- the text spells the number n: decimal digits, after a plus if there is one
pub record SpellsNumber (text : List ℕ) (n : ℕ) : Type 0 where
  pub digits : IsNumeral 10 (without_leading_plus text)
  pub value : digits_value 10 (without_leading_plus text) ≡ n
  pub fits : n < 2 ^ 64

-- the arguments say which lines to keep
abbrev pub SayKeep : List (List ℕ) → Keep → Type 0
SayKeep arguments First = arguments ≡ []
SayKeep arguments Last = arguments ≡ codes "--last" ∷ []
SayKeep arguments (Window n) =
    (text : List ℕ) × (arguments ≡ codes "--window" ∷ text ∷ []) × SpellsNumber text n

-- the arguments say no lines to keep
abbrev pub SayNothing : List (List ℕ) → Type 0
SayNothing arguments = (keep : Keep) → ¬ SayKeep arguments keep

-- the arguments ask for help
abbrev pub AskHelp : List (List ℕ) → Type 0
AskHelp arguments = arguments ≡ codes "--help" ∷ []

-- the arguments are wrong: they say no lines to keep, and do not ask for help
abbrev pub AreWrong : List (List ℕ) → Type 0
AreWrong arguments = SayNothing arguments × ¬ AskHelp arguments

-- the bytes of the arguments
abbrev pub texts : List (String Global) → List (List ℕ)
texts arguments = map string_bytes arguments
