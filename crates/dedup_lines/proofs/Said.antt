-- What the arguments say.
use Rattle.std.proofs.Common.{ℕ, ◌≡◌, ◌<◌, ◌≤◌, ◌^◌, List, [], ◌∷◌, length, get_or, sym, ap, ap₂, subst, arith}
use Rattle.std.specs.Str.Parse.{IsNumeral, digits_value, without_leading_plus}
use Rattle.std.specs.{Prelude.String, Prelude.string_bytes, declared.alloc.Global.Global}
use Rattle.dedup_lines.specs.declared.keep.Keep.TheVariants.{First, Last, Window}
use Rattle.dedup_lines.specs.Arguments.{SayNothing, SpellsNumber, texts}

pub texts-one : (arguments : List (String Global)) (a : String Global) → 1 ≤ length arguments → length arguments < 2
    → a ≡ get_or arguments 0 a → texts arguments ≡ string_bytes a ∷ []
texts-one [] a some few first = absurd (omega arith)
texts-one (x ∷ []) a some few first = ap (λ (y : String Global). string_bytes y ∷ []) (sym first)
texts-one (x ∷ y ∷ rest) a some few first = absurd (omega arith)

pub texts-two : (arguments : List (String Global)) (a b : String Global) → 2 ≤ length arguments → length arguments < 3
    → a ≡ get_or arguments 0 a → b ≡ get_or arguments 1 b → texts arguments ≡ string_bytes a ∷ string_bytes b ∷ []
texts-two [] a b some few first second = absurd (omega arith)
texts-two (x ∷ []) a b some few first second = absurd (omega arith)
texts-two (x ∷ y ∷ []) a b some few first second = ap₂ (λ (v w : String Global). string_bytes v ∷ string_bytes w ∷ []) (sym first)
    (sym second)
texts-two (x ∷ y ∷ z ∷ rest) a b some few first second = absurd (omega arith)

-- two words, of which the second is no number
pub SayNothing-number : (word text : List ℕ) → ¬ (IsNumeral 10 (without_leading_plus text) ×
    (digits_value 10 (without_leading_plus text) < 2 ^ 64)) → SayNothing (word ∷ text ∷ [])
SayNothing-number word text wrong First says = let longer = ap length says in absurd (omega (arith, longer))
SayNothing-number word text wrong Last says = let longer = ap length says in absurd (omega (arith, longer))
SayNothing-number word text wrong (Window n) says =
    let same : says.0 ≡ text = sym (ap (λ (words : List (List ℕ)). get_or words 1 []) says.1) in
    let spells : SpellsNumber text n = subst (λ (t : List ℕ). SpellsNumber t n) same says.2 in
    wrong (spells.digits, subst (λ (m : ℕ). m < 2 ^ 64) (sym spells.value) spells.fits)
