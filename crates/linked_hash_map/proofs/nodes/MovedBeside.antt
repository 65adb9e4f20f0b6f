-- A node that is moved before another, or behind all.
use Rattle.linked_hash_map.proofs.Names.{Bool, IfSome, IsTrue, List, None, Option, Some, ap, append_assoc, arith, cond, drop, filter}
use Rattle.linked_hash_map.proofs.Names.{length, nat_lt, not, option_to_list, remove, slice_get, subst, sym, take, ℕ, ◌++◌, ◌-◌, ◌∙◌}
use Rattle.linked_hash_map.proofs.Names.{◌≡◌, CutAt-IsAt, IsPermutation-to_front_at, map-to_before_at, pointer_of, pointer_of_some, PlaceAt}
use Rattle.linked_hash_map.proofs.Names.{index_of, to_before_at, to_front_at, Held, IsHeld, HasKey, Position, IsKept, VisitState, bare}
use Rattle.linked_hash_map.proofs.Names.{bare_node, pairs_of, take-append-drop, IsPermutation-append_comm, IsPermutation-append_left}
use Rattle.linked_hash_map.proofs.Names.{IsPermutation-trans, length_permutation, IsEquivalence, IsDistinct, position_or_len, IsPermutation}
use Rattle.linked_hash_map.proofs.Names.{keys_of, lookup_entry, Ptr}
use Rattle.linked_hash_map.proofs.nodes.{Current.IsKept-visited, FoundKeys.IsIndex-index_of, HeldPairs.length-pairs_of, Kept.IsKept-same}
use Rattle.linked_hash_map.proofs.{nodes.Kept.no_visit, nodes.MovedNode.IsKept-permuted, nodes.StoredKeys.HasKey-stored}
use Rattle.linked_hash_map.proofs.{nodes.StoredKeys.eq-stored, pairs.Places.count_before-index, pairs.Places.to_behind-index}

module _ {X : Type 0} (xs : List X) (i j : ℕ) where
  IsPermutation-to_before_at : IsPermutation xs (to_before_at xs i j)
  IsPermutation-to_before_at =
      let m : ℕ = j - cond (nat_lt i j) 1 0 in let o = option_to_list (slice_get xs i) in
      let front = take m (remove xs i) in let back = drop m (remove xs i) in
      let whole : (o ++ front) ++ back ≡ to_front_at xs i =
      append_assoc o front back ∙ ap (λ ys. o ++ ys) (take-append-drop m (remove xs i)) in
      IsPermutation-trans xs (to_front_at xs i) (to_before_at xs i j) (IsPermutation-to_front_at xs i)
      (subst (λ ys. IsPermutation ys (to_before_at xs i j)) whole
      (subst (IsPermutation ((o ++ front) ++ back)) (append_assoc front o back)
      (IsPermutation-append_left back (o ++ front) (front ++ o) (IsPermutation-append_comm o front))))

-- hs are the nodes before, and ks those where the one at i is before that at j
module _ {K V : Type 0} (hs : List (Held (K × V))) {ks : List (Held (K × V))} (i j : ℕ) (moved : ks ≡ to_before_at hs i j) where
  pub pairs-beside : pairs_of ks ≡ to_before_at (pairs_of hs) i j
  pairs-beside = ap pairs_of moved ∙ map-to_before_at (λ t. t.pair) hs i j

  pub length-beside : length (pairs_of ks) ≡ length (pairs_of hs)
  length-beside = length-pairs_of ks ∙ ap length moved ∙ length_permutation hs (to_before_at hs i j) (IsPermutation-to_before_at hs i j)
      ∙ sym (length-pairs_of hs)

  -- nothing is to be visited, nor is there a current pair
  pub IsKept-beside : {eq : K → K → Bool} → IsEquivalence eq → {hash : K → ℕ} {capacity n : ℕ} {visit : VisitState}
      → IsKept eq hash (bare hs) capacity visit → n ≡ capacity → IsKept eq hash (bare ks) n no_visit
  IsKept-beside laws kept same = IsKept-same (ap bare moved ∙ map-to_before_at bare_node hs i j) same (IsKept-permuted laws
      (IsPermutation-to_before_at (bare hs) i j) (IsKept-visited kept None tt) (omega arith) tt)

-- the node at p has a key that passes a test
module _ {K V : Type 0} {eq : K → K → Bool} (laws : IsEquivalence eq) {is_key : K → Bool}
    (respects : (x y : K) → IsTrue (is_key x) → is_key y ≡ eq x y) {hash : ℕ}
    {hs : List (Held (K × V))} (distinct : IsDistinct eq (keys_of (pairs_of hs))) {p : Ptr} (h : HasKey is_key hash hs p) where
  pub count_before-stored : position_or_len (λ pair. is_key pair.0) (pairs_of hs) ≡ index_of p hs
  count_before-stored = sym (ap (λ (test : K → Bool). position_or_len (λ pair. test pair.0) (pairs_of hs)) (eq-stored laws respects h))
      ∙ count_before-index laws distinct (IsIndex-index_of (HasKey-stored laws respects h))

  pub to_behind-stored : (n : ℕ) → filter (λ pair. not (is_key pair.0)) (take n (pairs_of hs))
      ++ (option_to_list (lookup_entry is_key (pairs_of hs)) ++ filter (λ pair. not (is_key pair.0)) (drop n (pairs_of hs)))
      ≡ to_before_at (pairs_of hs) (index_of p hs) n
  to_behind-stored n =
      sym (ap (λ (test : K → Bool). filter (λ pair. not (test pair.0)) (take n (pairs_of hs))
      ++ (option_to_list (lookup_entry test (pairs_of hs)) ++ filter (λ pair. not (test pair.0)) (drop n (pairs_of hs))))
      (eq-stored laws respects h))
      ∙ to_behind-index laws distinct (IsIndex-index_of (HasKey-stored laws respects h)) n

-- where a position is the place of an index, a node lies there
pub IsHeld-PlaceAt : {K V : Type 0} (hs : List (Held (K × V))) (i : ℕ) (o : Option (Position K V)) → PlaceAt hs (pointer_of_some o) i
    → IfSome o (λ next. IsHeld hs (pointer_of next))
IsHeld-PlaceAt hs i None place = tt
IsHeld-PlaceAt hs i (Some next) place = (CutAt-IsAt hs (pointer_of next) i place).held
