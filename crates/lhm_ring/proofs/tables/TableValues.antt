-- Other values in a table's nodes.
use Rattle.lhm_ring.proofs.Names.{BucketState, Held, IsTable, List, State, TableState, [], ap, arith, entries, length, length-map, map}
use Rattle.lhm_ring.proofs.Names.{refl, set_held_values, table_of, ℕ, ◌∷◌, ◌≡◌}
use Rattle.lhm_ring.proofs.{indexes.IndexMoves.spots-values, tables.IndexedRing.IsIndexed-same_spots}

module _ {K V : Type 0} where
  entries-set_held_values : (hs : List (Held (K × V))) (vs : List V) → entries (set_held_values hs vs) ≡ set_held_values (entries hs) vs
  entries-set_held_values [] vs = refl
  entries-set_held_values (t ∷ hs) [] = refl
  entries-set_held_values (t ∷ hs) (v ∷ vs) = grind (arith, entries-set_held_values hs vs)

  length-set_held_values : (hs : List (Held (K × V))) (vs : List V) → length (set_held_values hs vs) ≡ length hs
  length-set_held_values hs vs = let same = ap length (spots-values hs vs) in grind (arith, length-map)

  pub IsTable-values : {i : BucketState} {s : State (K × V)} {r : ℕ} (vs : List V) → IsTable i s r
      → IsTable i (record s { held = set_held_values s.held vs }) r
  IsTable-values vs table = grind (arith, IsIndexed-same_spots, spots-values, length-set_held_values)

  pub table_of-values : (s : State (K × V)) (r : ℕ) {t : TableState (K × V)} → table_of s r ≡ t → (vs : List V)
      → table_of (record s { held = set_held_values s.held vs }) r ≡ record t { held = set_held_values t.held vs }
  table_of-values s r e vs = grind (arith, entries-set_held_values, length-set_held_values)

  pub pairs-entries : (hs : List (Held (K × V))) → map (λ t. t.pair) (entries hs) ≡ map (λ t. t.pair) hs
  pairs-entries [] = refl
  pairs-entries (t ∷ hs) = ap (λ ps. t.pair ∷ ps) (pairs-entries hs)
