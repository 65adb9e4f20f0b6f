-- A list of pairs by indexes, for the few functions that keep the pairs.
use Rattle.std.specs.Prelude.{◌≡◌, ℕ, zero, suc, ◌<◌, Bool, IsTrue, List, [], ◌∷◌, length, slice_get, Some}
use Rattle.std.proofs.Common.{refl, sym, ap, subst}
use Rattle.std.proofs.Math.Nat.{not-suc-le-zero, le_of_suc-le-suc}

-- the index has the pair of k
pub record IsIndex {K V : Type 0} (eq : K → K → Bool) (pairs : List (K × V)) (k : K) (index : ℕ) :
    Type 0 where
  pub pair : K × V
  pub there : slice_get pairs index ≡ Some pair
  pub same : IsTrue (eq k pair.0)

-- the pairs, with v as the value at the index
abbrev pub set_value_at : {K V : Type 0} → List (K × V) → ℕ → V → List (K × V)
set_value_at [] index v = []
set_value_at (pair ∷ pairs) zero v = (pair.0, v) ∷ pairs
set_value_at (pair ∷ pairs) (suc index) v = pair ∷ set_value_at pairs index v

-- the pair at an index that lies within
abbrev pub pair_at : {K V : Type 0} (pairs : List (K × V)) (index : ℕ) → index < length pairs
    → K × V
pair_at [] index within = absurd (not-suc-le-zero within)
pair_at (pair ∷ pairs) zero within = pair
pair_at (pair ∷ pairs) (suc index) within = pair_at pairs index (le_of_suc-le-suc within)

-- an index within stays so once a value is set
pub length-set_value_at : {K V : Type 0} (pairs : List (K × V)) (index : ℕ) (v : V)
    → length (set_value_at pairs index v) ≡ length pairs
length-set_value_at [] index v = refl
length-set_value_at (pair ∷ pairs) zero v = refl
length-set_value_at (pair ∷ pairs) (suc index) v = ap suc (length-set_value_at pairs index v)

pub within-set_value_at : {K V : Type 0} (pairs : List (K × V)) (index : ℕ) (v : V)
    → index < length pairs → index < length (set_value_at pairs index v)
within-set_value_at pairs index v within =
    subst (λ n. index < n) (sym (length-set_value_at pairs index v)) within
