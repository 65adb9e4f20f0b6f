-- For callers: what `retain` keeps, by what the closure's contract says of each call. T says what a
-- call does: it may return this, leave this value there, and leave the closure so.
use Rattle.std.proofs.Common.{◌≡◌, Bool, true, cond, List, [], ◌∷◌, map, filter, refl, ap, ◌∙◌, subst, arith}
use Rattle.std.specs.Map.Calls.{RetainsPairs}
use Rattle.std.proofs.lemmas.Map.Made as made
-- the first pair
pub use Rattle.linked_hash_map.proofs.nodes.Retained.{RetainsFirst, first-retained}

-- a closure that stays as it was, and whose result and the value that it leaves depend on the pair
-- alone
module _ {F K V : Type 0} (T : F → K → V → Bool → V → F → Type 0) (test : K × V → Bool) (change : K × V → V) (f : F) where
  abbrev changed : K × V → K × V
  changed pair = (pair.0, change pair)

  cond-changed : (b : Bool) (pair : K × V) (pairs : List (K × V))
      → cond b (changed pair ∷ map changed pairs) (map changed pairs) ≡ map changed (cond b (pair ∷ pairs) pairs)
  cond-changed b pair pairs = grind arith

  pub map-filter_from_retain_pairs : (pairs kept : List (K × V))
      → ((k : K) (v : V) (b : Bool) (w : V) (g : F) → T f k v b w g → (b ≡ test (k, v)) × (w ≡ change (k, v)) × (g ≡ f))
      → RetainsPairs T f pairs kept → kept ≡ map changed (filter test pairs)
  map-filter_from_retain_pairs [] kept says r = r
  map-filter_from_retain_pairs (pair ∷ pairs) kept says r =
      let of = first-retained T f pair pairs kept r in
      let said = says pair.0 pair.1 of.returned of.value of.closure of.called in
      let rest = map-filter_from_retain_pairs pairs of.rest says (subst (λ g. RetainsPairs T g pairs of.rest) said.2 of.retained) in
      of.kept_is ∙ (λ i. cond (said.0 i) ((pair.0, said.1 i) ∷ rest i) (rest i)) ∙ cond-changed (test pair) pair (filter test pairs)

-- and one that keeps all pairs
module _ {F K V : Type 0} (T : F → K → V → Bool → V → F → Type 0) (change : K × V → V) (f : F) where
  filter-true : (pairs : List (K × V)) → filter (λ _. true) pairs ≡ pairs
  filter-true [] = refl
  filter-true (pair ∷ pairs) = ap (λ ps. pair ∷ ps) (filter-true pairs)

  pub map_from_retain_pairs : (pairs kept : List (K × V))
      → ((k : K) (v : V) (b : Bool) (w : V) (g : F) → T f k v b w g → (b ≡ true) × (w ≡ change (k, v)) × (g ≡ f))
      → RetainsPairs T f pairs kept → kept ≡ map (λ pair. (pair.0, change pair)) pairs
  map_from_retain_pairs pairs kept says r = map-filter_from_retain_pairs T (λ _. true) change f pairs kept says r
      ∙ ap (map (λ (pair : K × V). (pair.0, change pair))) (filter-true pairs)

-- and one that leaves each value as it was: what std's lemma says, with the arguments in the order
-- of all lemmas here
module _ {F K V : Type 0} (T : F → K → V → Bool → V → F → Type 0) where
  pub filter_same_pairs : (test : K × V → Bool) (f : F) (pairs kept : List (K × V))
      → ((k : K) (v : V) (b : Bool) (w : V) (g : F) → T f k v b w g → (b ≡ test (k, v)) × (w ≡ v) × (g ≡ f)) → RetainsPairs T f pairs kept
      → kept ≡ filter test pairs
  filter_same_pairs test f pairs kept says r = made.filter_same_pairs T test f says pairs kept r
