-- A map whose table and visit are kept, as its callers see it.
use Rattle.std.proofs.Common.{◌≡◌, ℕ, Bool, List, [], ◌∷◌, None, refl, ap, subst, arith}
use Rattle.std.specs.{List.IsDistinct, Map.keys_of}
use Rattle.linked_hash_map.specs.Nodes.{VisitState, pairs_of, bare, Beside, beside, cursor_at, map_of, IsKept}
use Rattle.linked_hash_map.specs.{LinkedMap.LinkedMap, declared.map.LinkedHashMap.TheInside.Inside, Pairs.set_values, Validity.IsValid}
use Rattle.linked_hash_map.proofs.nodes.HeldPairs.{bare-values, keys-bare, length-bare, length-pairs_of}
use Rattle.lhm_ring.specs.{Ring.Held, Ring.set_held_values, Table.TableState}

-- nothing is left to visit, and no entry stands for a pair
abbrev pub no_visit : VisitState
no_visit = record { bookmark = None; unvisited = 0; current = None }

-- other nodes that are the same without their values
pub IsKept-same : {K : Type 0} {eq : K → K → Bool} {hash : K → ℕ} {us ws : List (Held K)} {m n : ℕ}
    {visit : VisitState} → ws ≡ us → n ≡ m → IsKept eq hash us m visit → IsKept eq hash ws n visit
IsKept-same same capacity kept = grind arith

-- what is kept so is a valid map
module _ {K V : Type 0} {eq : K → K → Bool} {hash : K → ℕ} (hs : List (Held (K × V)))
    {capacity : ℕ} {visit : VisitState} (kept : IsKept eq hash (bare hs) capacity visit) where
  pub distinct_keys : IsDistinct eq (keys_of (pairs_of hs))
  distinct_keys = subst (IsDistinct eq) (keys-bare hs) kept.distinct

  pub IsValid-kept : {S : Type 0} {m : LinkedMap K V S} → m.pairs ≡ pairs_of hs → m.capacity ≡ capacity
      → m.cursor ≡ cursor_at visit (bare hs) → IsValid eq m
  IsValid-kept pairs same cursor = grind (arith, length-bare, length-pairs_of, distinct_keys)

-- as its callers see it
pub IsValid-view : {K V S H : Type 0} {eq : K → K → Bool} {hash : K → ℕ} (m : Inside K V S H) {seen : LinkedMap K V S}
    → map_of m.table (beside m) ≡ seen → IsKept eq hash (bare m.table.held) m.table.capacity (beside m).visit → IsValid eq seen
IsValid-view {eq = eq} m is kept = subst (IsValid eq) is (IsValid-kept m.table.held kept refl refl refl)

-- with other values in the same nodes, other pairs are seen, and nothing else
pub map_of-revalued : {K V S : Type 0} (s : TableState (K × V)) (hs : List (Held (K × V))) (b : Beside S) → bare hs ≡ bare s.held
    → {ps : List (K × V)} → pairs_of hs ≡ ps → map_of (record s { held = hs }) b ≡ record (map_of s b) { pairs = ps }
map_of-revalued s hs b same pairs = grind arith

-- with other values
module _ {K V : Type 0} where
  pairs_of-set_held_values : (hs : List (Held (K × V))) (vs : List V) → pairs_of (set_held_values hs vs) ≡ set_values (pairs_of hs) vs
  pairs_of-set_held_values [] vs = refl
  pairs_of-set_held_values (t ∷ hs) [] = refl
  pairs_of-set_held_values (t ∷ hs) (v ∷ vs) = ap (λ ps. (t.pair.0, v) ∷ ps) (pairs_of-set_held_values hs vs)

  pub map_of-values : {S : Type 0} (s : TableState (K × V)) (vs : List V) (b : Beside S)
      → map_of (record s { held = set_held_values s.held vs }) b ≡ record (map_of s b) { pairs = set_values (pairs_of s.held) vs }
  map_of-values s vs b = grind (arith, map_of-revalued, bare-values, pairs_of-set_held_values)
