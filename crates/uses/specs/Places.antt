-- Places, and the parts that look one up.
use Rattle.std.specs.Prelude.{◌≡◌, ℕ, Bool, true, false, List, [], ◌∷◌, ◌==◌, ◌&&◌, IsTrue}
use Rattle.std.specs.Cmp.Lexicographic.{bytes_decides, nat_list_eq_equiv}
use Rattle.std.specs.Hash.{u64}
use Rattle.std.specs.Str.{bytes_eq}
use Rattle.std.specs.String.{string_bytes, string_eq}
use Rattle.std.proofs.Common.{ap, ap₂, refl}
use Rattle.std.proofs.lemmas.Bool.{eqb-true}
use Rattle.uses.specs.declared.places.Place.{Place}

-- whether a street and a number are those of a place
abbrev pub is_place : List ℕ → ℕ → Place → Bool
is_place street number place =
    bytes_eq street (string_bytes place.street) && (number == place.number)

left : (a b : Bool) → IsTrue (a && b) → IsTrue a
left true b both = refl
left false b both = both

right : (a b : Bool) → IsTrue (a && b) → IsTrue b
right true b both = both
right false b both = absurd (cc)

-- they are hashed as that place
pub same_hash : (street : List ℕ) (number : ℕ) (place : Place) → IsTrue (is_place street number place)
    → ◌≡◌ {A = List (List ℕ)} (street ∷ (255 ∷ []) ∷ u64 number)
    (string_bytes place.street ∷ (255 ∷ []) ∷ u64 place.number)
same_hash street number place same =
    let texts = bytes_eq street (string_bytes place.street) in
    ap₂ (λ (s : List ℕ) (n : ℕ). s ∷ (255 ∷ []) ∷ u64 n)
    ((bytes_decides street (string_bytes place.street)).0 (left texts (number == place.number) same))
    (eqb-true number place.number (right texts (number == place.number) same))

-- and look up the places that are equal to it
pub same_places : (street : List ℕ) (number : ℕ) (place other : Place)
    → IsTrue (is_place street number place)
    → is_place street number other
    ≡ (string_eq place.street other.street && (place.number == other.number))
same_places street number place other same =
    let texts = bytes_eq street (string_bytes place.street) in
    ap₂ (λ a b. a && b)
    (nat_list_eq_equiv.congr street (string_bytes place.street) (string_bytes other.street)
    (left texts (number == place.number) same))
    (ap (λ n. n == other.number) (eqb-true number place.number (right texts (number == place.number) same)))
