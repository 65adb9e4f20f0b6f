-- A node that is moved behind the others.
use Rattle.linked_hash_map.proofs.Names.{Bool, List, None, Some, ap, arith, length, map, option_to_list, refl, remove, slice_get, subst}
use Rattle.linked_hash_map.proofs.Names.{sym, ℕ, ◌+◌, ◌<◌, ◌∙◌, ◌≡◌, ◌≤◌, IsPermutation-to_back_at, map-to_back_at, index_of, to_back_at}
use Rattle.linked_hash_map.proofs.Names.{Held, IsKept, Lies, VisitState, bare, bare_node, bookmark_at, pairs_of, length-remove}
use Rattle.linked_hash_map.proofs.Names.{All-from_recursion, recursion_from_All, All-permutation, IsPermutation-map, length_permutation}
use Rattle.linked_hash_map.proofs.Names.{IsDistinct-IsPermutation, IsEquivalence, IsPermutation, Ptr}
use Rattle.linked_hash_map.proofs.nodes.{Current.IsKept-visited, TakenNode.IsKept-out, Kept.IsKept-same, Kept.no_visit}
use Rattle.linked_hash_map.proofs.nodes.HeldPairs.{index_of-bare, length-bare}
use Rattle.linked_hash_map.proofs.nodes.Outside.{IsElsewhere, to_visit-bare, to_visit-out, to_visit_at, to_visit_of}
use Rattle.linked_hash_map.proofs.nodes.PushedPair.{bookmark_at-append, to_visit-append}

-- the same nodes in another order
pub IsKept-permuted : {K : Type 0} {eq : K → K → Bool} {hash : K → ℕ} → IsEquivalence eq → {us ws : List (Held K)} {capacity : ℕ}
    {visit : VisitState} → IsPermutation us ws → IsKept eq hash us capacity visit
    → bookmark_at visit.bookmark ws + visit.unvisited ≤ length us → Lies visit.current ws → IsKept eq hash ws capacity visit
IsKept-permuted {K} {eq} {hash} laws {us} {ws} order kept reach lies =
    let keys : List (Held K) → List K = map (λ u. u.pair) in let P : Held K → Type 0 = λ u. u.hash ≡ hash u.pair in
    let long = length_permutation us ws order in
    record {
      distinct = IsDistinct-IsPermutation eq laws.symm (keys us) (keys ws) (IsPermutation-map (λ u. u.pair) us ws order) kept.distinct;
      hashed = recursion_from_All P ws (All-permutation P us ws order (All-from_recursion P us kept.hashed));
      within = omega (arith, long, kept.within);
      limit = kept.limit;
      bookmarked = kept.bookmarked;
      ended = kept.ended;
      in_reach = omega (arith, long, reach);
      current_lies = lies;
    }

-- hs are the nodes before, and ks those where the one at an index is behind the others
module _ {K V : Type 0} (hs : List (Held (K × V))) {ks : List (Held (K × V))} (i : ℕ) (moved : ks ≡ to_back_at hs i) where
  pub pairs-moved : pairs_of ks ≡ to_back_at (pairs_of hs) i
  pairs-moved = ap pairs_of moved ∙ map-to_back_at (λ t. t.pair) hs i

  pub length-moved : length ks ≡ length hs
  length-moved = ap length moved ∙ length_permutation hs (to_back_at hs i) (IsPermutation-to_back_at hs i)

  bare-moved : bare ks ≡ to_back_at (bare hs) i
  bare-moved = ap bare moved ∙ map-to_back_at bare_node hs i

  IsPermutation-moved : IsPermutation (bare hs) (bare ks)
  IsPermutation-moved = subst (IsPermutation (bare hs)) (sym bare-moved) (IsPermutation-to_back_at (bare hs) i)

  -- the node is none of those that are still to be visited
  module _ {eq : K → K → Bool} {hash : K → ℕ} {capacity : ℕ} {visit : VisitState} (lies : i < length hs)
      (kept : IsKept eq hash (bare hs) capacity visit) (elsewhere : IsElsewhere i visit (bare hs)) where
    lies_bare : i < length (bare hs)
    lies_bare = let long = length-bare hs in omega (arith, long, lies)

    out : IsKept eq hash (remove (bare hs) i) capacity (record visit { current = None })
    out = IsKept-out kept i lies_bare elsewhere

    pub behind-moved : bookmark_at visit.bookmark (bare ks) + visit.unvisited < length hs
    behind-moved =
        let same = ap (bookmark_at visit.bookmark) bare-moved
        ∙ bookmark_at-append out (option_to_list (slice_get (bare hs) i)) in
        let long = length-bare hs in let fewer = length-remove (bare hs) i lies_bare in
        omega (arith, same, long, fewer, out.in_reach)

    pub to_visit-moved : to_visit_of visit ks ≡ to_visit_of visit hs
    to_visit-moved = sym (to_visit-bare visit ks) ∙ ap (to_visit_at visit) bare-moved
        ∙ to_visit-append out (option_to_list (slice_get (bare hs) i)) ∙ to_visit-out kept i lies_bare elsewhere
        ∙ to_visit-bare visit hs

    pub IsKept-moved : IsEquivalence eq → {p : Ptr} → visit.current ≡ Some p → index_of p ks + 1 ≡ length hs
        → {n : ℕ} → n ≡ capacity → IsKept eq hash (bare ks) n visit
    IsKept-moved laws {p} is last same =
        let of_hs = length-bare hs in let of_ks = length-bare ks in let at = index_of-bare p ks in
        let reach = behind-moved in let long = length-moved in
        IsKept-same refl same (IsKept-permuted laws IsPermutation-moved kept (omega (arith, of_hs, reach))
        (subst (λ o. Lies o (bare ks)) (sym is) (omega (arith, at, of_ks, last, long))))

  -- and no pair is to be visited, nor is there a current one
  pub IsKept-back : {eq : K → K → Bool} → IsEquivalence eq → {hash : K → ℕ} {capacity n : ℕ} {visit : VisitState}
      → IsKept eq hash (bare hs) capacity visit → n ≡ capacity → IsKept eq hash (bare ks) n no_visit
  IsKept-back laws kept same =
      IsKept-same refl same (IsKept-permuted laws IsPermutation-moved (IsKept-visited kept None tt) (omega arith) tt)
