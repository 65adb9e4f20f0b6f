-- A pair that is removed.
use Rattle.linked_hash_map.proofs.Names.{Bool, List, None, ap, arith, inr, length, map, remove, subst, sym, ℕ, ◌<◌, ◌∙◌, ◌≡◌, map-remove}
use Rattle.linked_hash_map.proofs.Names.{Held, IsKept, VisitState, bare, bare_node, pairs_of, length-remove, IsDistinct}
use Rattle.linked_hash_map.proofs.lists.Distinct.{all_removed, distinct_removed}
use Rattle.linked_hash_map.proofs.nodes.{Current.IsKept-visited, HeldPairs.length-bare, Kept.IsKept-same, Kept.no_visit}
use Rattle.linked_hash_map.proofs.nodes.Outside.{IsElsewhere, in_reach-out, to_visit-bare, to_visit-out, to_visit_at, to_visit_of}

-- the nodes without one that is not to be visited, which is spare
pub IsKept-out : {K : Type 0} {eq : K → K → Bool} {hash : K → ℕ} {us : List (Held K)} {capacity : ℕ} {visit : VisitState}
    → IsKept eq hash us capacity visit → (i : ℕ) → i < length us → IsElsewhere i visit us
    → IsKept eq hash (remove us i) capacity (record visit { current = None })
IsKept-out {K} {eq} {hash} {us} kept i lies elsewhere =
    let long = length-remove us i lies in
    record {
      distinct = subst (IsDistinct eq) (sym (map-remove (λ (u : Held K). u.pair) us i))
          (distinct_removed eq (map (λ u. u.pair) us) i kept.distinct);
      hashed = all_removed (λ u. u.hash ≡ hash u.pair) us i kept.hashed;
      within = omega (arith, long, kept.within);
      limit = kept.limit;
      bookmarked = kept.bookmarked;
      ended = kept.ended;
      in_reach = in_reach-out kept i lies elsewhere;
      current_lies = tt;
    }

-- hs are the nodes before, and ws those without the one at an index
module _ {K V : Type 0} (hs : List (Held (K × V))) {ws : List (Held (K × V))} (i : ℕ) (others : ws ≡ remove hs i) where
  pub pairs-removed : pairs_of ws ≡ remove (pairs_of hs) i
  pairs-removed = ap pairs_of others ∙ map-remove (λ t. t.pair) hs i

  bare-removed : bare ws ≡ remove (bare hs) i
  bare-removed = ap bare others ∙ map-remove bare_node hs i

  -- the node is none of those that are still to be visited
  module _ {eq : K → K → Bool} {hash : K → ℕ} {capacity : ℕ} {visit : VisitState} (lies : i < length hs)
      (kept : IsKept eq hash (bare hs) capacity visit) (elsewhere : IsElsewhere i visit (bare hs)) where
    lies_bare : i < length (bare hs)
    lies_bare = let long = length-bare hs in omega (arith, long, lies)

    pub to_visit-removed : to_visit_of visit ws ≡ to_visit_of visit hs
    to_visit-removed = sym (to_visit-bare visit ws) ∙ ap (to_visit_at visit) bare-removed
        ∙ to_visit-out kept i lies_bare elsewhere ∙ to_visit-bare visit hs

    pub IsKept-taken : {n : ℕ} → n ≡ capacity → IsKept eq hash (bare ws) n (record visit { current = None })
    IsKept-taken same = IsKept-same bare-removed same (IsKept-out kept i lies_bare elsewhere)

  -- and no pair is to be visited, nor is there a current one
  pub IsKept-removed : {eq : K → K → Bool} {hash : K → ℕ} {capacity n : ℕ} {visit : VisitState} → i < length hs
      → IsKept eq hash (bare hs) capacity visit → n ≡ capacity → IsKept eq hash (bare ws) n no_visit
  IsKept-removed lies kept same = IsKept-taken lies (IsKept-visited kept None tt) (inr (omega arith)) same
