-- A node that is moved before the others.
use Rattle.linked_hash_map.proofs.Names.{Bool, List, None, Some, ap, arith, drop, inl, inr, length, map, option_to_list, remove, subst, suc}
use Rattle.linked_hash_map.proofs.Names.{sym, take, ℕ, ⊎_elim, ◌++◌, ◌+◌, ◌<◌, ◌∙◌, ◌≡◌, ◌⊎◌, IsAt-index_of, IsPermutation-to_front_at}
use Rattle.linked_hash_map.proofs.Names.{index_of-behind_front, index_of-front, map-to_front_at, slice_get-at, index_of, to_front_at, Held}
use Rattle.linked_hash_map.proofs.Names.{IsKept, Lies, VisitState, bare, bare_node, bookmark_at, pairs_of, length-remove}
use Rattle.linked_hash_map.proofs.nodes.{Current.IsKept-visited, MovedNode.IsKept-permuted, TakenNode.IsKept-out, HeldPairs.index_of-bare}
use Rattle.linked_hash_map.proofs.nodes.Outside.{IsCurrent, IsElsewhere, to_visit-bare, to_visit-out, to_visit_at, to_visit_of}
use Rattle.linked_hash_map.proofs.{Names.length_permutation, Names.IsEquivalence, Names.Ptr, lists.Stretches.take-none}
use Rattle.linked_hash_map.proofs.{nodes.HeldPairs.length-bare, nodes.Kept.IsKept-same, nodes.Kept.no_visit}

-- the nodes with one that is not to be visited moved before the others
module _ {K : Type 0} {eq : K → K → Bool} {hash : K → ℕ} {us : List (Held K)} {capacity : ℕ} {visit : VisitState}
    (kept : IsKept eq hash us capacity visit) (p : Ptr) (lies : index_of p us < length us)
    (elsewhere : IsElsewhere (index_of p us) visit us) where
  abbrev others : List (Held K)
  others = remove us (index_of p us)

  abbrev moved_us : List (Held K)
  moved_us = to_front_at us (index_of p us)

  -- nothing is to be visited, or the bookmark is at the next index
  pub shifts : ((visit.unvisited ≡ 0) × (bookmark_at visit.bookmark moved_us ≡ 0))
      ⊎ (bookmark_at visit.bookmark moved_us ≡ bookmark_at visit.bookmark others + 1)
  shifts = grind (arith, index_of-behind_front, IsAt-index_of)

  pub IsKept-to_front : IsEquivalence eq → visit.current ≡ Some p → IsKept eq hash moved_us capacity visit
  IsKept-to_front laws is =
      let reach = (IsKept-out kept (index_of p us) lies elsewhere).in_reach in
      let fewer = length-remove us (index_of p us) lies in
      let here = index_of-front us (index_of p us) (IsAt-index_of p us lies) in
      let long = length_permutation us moved_us (IsPermutation-to_front_at us (index_of p us)) in
      IsKept-permuted laws (IsPermutation-to_front_at us (index_of p us)) kept
      (⊎_elim (λ s. omega (arith, s.0, s.1)) (λ s. omega (arith, s, reach, fewer)) shifts)
      (subst (λ o. Lies o moved_us) (sym is) (omega (arith, here, long, lies)))

  pub elsewhere-front : IsElsewhere 0 visit moved_us
  elsewhere-front = ⊎_elim (λ s. inr (omega (arith, s.0, s.1))) (λ s. inl (omega (arith, s))) shifts

  pub to_visit-front : to_visit_at visit moved_us ≡ to_visit_at visit us
  to_visit-front =
      let stretch : List (Held K) → List K = λ ws. drop (bookmark_at visit.bookmark ws) (map (λ u. u.pair) ws) in
      let there = slice_get-at us (index_of p us) (IsAt-index_of p us lies) in
      ⊎_elim
      (λ s. ap (λ n. take n (stretch moved_us)) s.0 ∙ take-none (stretch moved_us)
      ∙ sym (ap (λ n. take n (stretch others)) s.0 ∙ take-none (stretch others)))
      (λ s. let next : bookmark_at visit.bookmark moved_us ≡ suc (bookmark_at visit.bookmark others) = omega (arith, s) in
      λ j. take visit.unvisited (drop (next j) (map (λ u. u.pair) (option_to_list (there j) ++ others)))) shifts
      ∙ to_visit-out kept (index_of p us) lies elsewhere

-- hs are the nodes before, and ks those where the one at p is before the others
module _ {K V : Type 0} (hs : List (Held (K × V))) {ks : List (Held (K × V))} (p : Ptr) (moved : ks ≡ to_front_at hs (index_of p hs)) where
  pub pairs-moved : pairs_of ks ≡ to_front_at (pairs_of hs) (index_of p hs)
  pairs-moved = ap pairs_of moved ∙ map-to_front_at (λ t. t.pair) hs (index_of p hs)

  pub length-to_front : length ks ≡ length hs
  length-to_front = ap length moved ∙ length_permutation hs (to_front_at hs (index_of p hs)) (IsPermutation-to_front_at hs (index_of p hs))

  bare-moved : bare ks ≡ to_front_at (bare hs) (index_of p (bare hs))
  bare-moved = ap bare moved ∙ map-to_front_at bare_node hs (index_of p hs) ∙ ap (to_front_at (bare hs)) (sym (index_of-bare p hs))

  pub index_of-to_front : index_of p hs < length hs → index_of p ks ≡ 0
  index_of-to_front lies = ap (index_of p) moved ∙ index_of-front hs (index_of p hs) (IsAt-index_of p hs lies)

  -- the node is the current one
  module _ {eq : K → K → Bool} {hash : K → ℕ} {capacity : ℕ} {visit : VisitState}
      (kept : IsKept eq hash (bare hs) capacity visit) (now : IsCurrent visit hs p) where
    lies_bare : index_of p (bare hs) < length (bare hs)
    lies_bare = let at = index_of-bare p hs in let long = length-bare hs in omega (arith, at, long, now.lies)

    elsewhere_bare : IsElsewhere (index_of p (bare hs)) visit (bare hs)
    elsewhere_bare = subst (λ i. IsElsewhere i visit (bare hs)) (sym (index_of-bare p hs)) now.elsewhere

    pub IsKept-moved : IsEquivalence eq → {n : ℕ} → n ≡ capacity → IsKept eq hash (bare ks) n visit
    IsKept-moved laws same = IsKept-same bare-moved same (IsKept-to_front kept p lies_bare elsewhere_bare laws now.is)

    pub to_visit-moved : to_visit_of visit ks ≡ to_visit_of visit hs
    to_visit-moved = sym (to_visit-bare visit ks) ∙ ap (to_visit_at visit) bare-moved
        ∙ to_visit-front kept p lies_bare elsewhere_bare ∙ to_visit-bare visit hs

    pub elsewhere-moved : IsElsewhere (index_of p ks) visit (bare ks)
    elsewhere-moved =
        subst (λ (x : ℕ × List (Held K)). IsElsewhere x.0 visit x.1) (λ j. (sym (index_of-to_front now.lies) j, sym bare-moved j))
        (elsewhere-front kept p lies_bare elsewhere_bare)

  -- and no pair is to be visited, nor is there a current one
  pub IsKept-front : {eq : K → K → Bool} → IsEquivalence eq → {hash : K → ℕ} {capacity n : ℕ} {visit : VisitState}
      → IsKept eq hash (bare hs) capacity visit → n ≡ capacity → IsKept eq hash (bare ks) n no_visit
  IsKept-front laws kept same = IsKept-same bare-moved same (IsKept-permuted laws
      (IsPermutation-to_front_at (bare hs) (index_of p (bare hs))) (IsKept-visited kept None tt) (omega arith) tt)
