-- The first nodes, moved behind the others.
use Rattle.linked_hash_map.proofs.Names.{Bool, List, None, ap, arith, drop, length, length-append, refl, subst, sym, take, ℕ, ◌++◌, ◌≡◌}
use Rattle.linked_hash_map.proofs.Names.{Held, IsKept, VisitState, bare, bare_node, pairs_of, drop-map, take-append-drop, take-map}
use Rattle.linked_hash_map.proofs.Names.{IsPermutation-append_comm, IsPermutation-map, IsEquivalence, IsPermutation}
use Rattle.linked_hash_map.proofs.nodes.{Current.IsKept-visited, MovedNode.IsKept-permuted, Kept.IsKept-same, Kept.no_visit}
use Rattle.linked_hash_map.proofs.nodes.HeldPairs.{length-pairs_of, pairs_of-append}

-- hs are the nodes before, and ks those where the first are behind the others
module _ {K V : Type 0} (count : ℕ) (hs ks : List (Held (K × V))) (is : ks ≡ drop count hs ++ take count hs) where
  pub pairs-rotated : pairs_of ks ≡ drop count (pairs_of hs) ++ take count (pairs_of hs)
  pairs-rotated = grind (arith, pairs_of-append, drop-map, take-map)

  pub length-rotated : length (pairs_of ks) ≡ length (pairs_of hs)
  length-rotated =
      let of_ks = ap length is in let of_hs = ap length (take-append-drop count hs) in
      let of_rotated = length-append (drop count hs) (take count hs) in
      let of_whole = length-append (take count hs) (drop count hs) in
      let as_many = length-pairs_of ks in let as_many_hs = length-pairs_of hs in
      omega (arith, of_ks, of_hs, of_rotated, of_whole, as_many, as_many_hs)

  pub IsKept-rotated : {eq : K → K → Bool} {hash : K → ℕ} → IsEquivalence eq → {capacity n : ℕ} {visit : VisitState}
      → IsKept eq hash (bare hs) capacity visit → n ≡ capacity → IsKept eq hash (bare ks) n no_visit
  IsKept-rotated laws kept same =
      let order = subst (λ us. IsPermutation us ks) (take-append-drop count hs)
      (subst (IsPermutation (take count hs ++ drop count hs)) (sym is) (IsPermutation-append_comm (take count hs) (drop count hs))) in
      IsKept-same refl same (IsKept-permuted laws (IsPermutation-map bare_node hs ks order) (IsKept-visited kept None tt) (omega arith) tt)
