-- A pair that is put at the back.
use Rattle.linked_hash_map.proofs.Names.{Bool, List, None, Option, [], ap, arith, false, length, length-append, map, sym, ℕ, ◌++◌, ◌<◌, ◌∙◌}
use Rattle.linked_hash_map.proofs.Names.{◌∷◌, ◌≡◌, AllByRecursion-append, Held, IsKept, Lies, VisitState, bare, bare_node, bookmark_at}
use Rattle.linked_hash_map.proofs.Names.{current_at, pairs_of, find, length-map, map-append, IsDistinct-push, IsEquivalence, list_any, Ptr}
use Rattle.linked_hash_map.proofs.{lists.Stretches.stretch-front, nodes.Kept.IsKept-same, pairs.Calls.list_any-none}
use Rattle.linked_hash_map.proofs.nodes.HeldPairs.{keys-bare, length-bare, pairs_of-append}
use Rattle.linked_hash_map.proofs.nodes.Outside.{index_of-among_first, to_visit-bare, to_visit_at, to_visit_of}

-- what lies among the first nodes is where it was
module _ {B : Type 0} where
  pub current_at-append : (current : Option Ptr) (us vs : List (Held B)) → Lies current us
      → current_at current (us ++ vs) ≡ current_at current us
  current_at-append current us vs h = grind (arith, index_of-among_first)

  lies-append : (current : Option Ptr) (us vs : List (Held B)) → Lies current us → Lies current (us ++ vs)
  lies-append current us vs h = grind (arith, index_of-among_first, length-append)

-- one node more, the last
module _ {K : Type 0} {eq : K → K → Bool} {hash : K → ℕ} {us : List (Held K)} {capacity : ℕ}
    {visit : VisitState} (k : IsKept eq hash us capacity visit) where
  pub bookmark_at-append : (vs : List (Held K)) → bookmark_at visit.bookmark (us ++ vs) ≡ bookmark_at visit.bookmark us
  bookmark_at-append vs = grind (arith, index_of-among_first)

  -- what is still to be visited ends before it
  pub to_visit-append : (vs : List (Held K)) → to_visit_at visit (us ++ vs) ≡ to_visit_at visit us
  to_visit-append vs = grind (arith, length-map, bookmark_at-append, map-append, stretch-front)

  pub IsKept-append : IsEquivalence eq → (u : Held K) → u.hash ≡ hash u.pair → list_any (eq u.pair) (map (λ t. t.pair) us) ≡ false
      → length us < capacity → IsKept eq hash (us ++ u ∷ []) capacity visit
  IsKept-append laws u hashed absent room =
      grind (arith, length-append, bookmark_at-append, map-append, IsDistinct-push, AllByRecursion-append, lies-append)

-- a node was put at the back
module _ {K V : Type 0} (hs : List (Held (K × V))) {ks : List (Held (K × V))} (u : Held (K × V))
    (last : ks ≡ hs ++ u ∷ []) where
  pub pairs_of-push : pairs_of ks ≡ pairs_of hs ++ u.pair ∷ []
  pairs_of-push = ap pairs_of last ∙ pairs_of-append hs (u ∷ [])

  bare-push : bare ks ≡ bare hs ++ bare_node u ∷ []
  bare-push = ap bare last ∙ map-append (bare_node {K = K} {V = V}) hs (u ∷ [])

  module _ {eq : K → K → Bool} {hash : K → ℕ} {capacity : ℕ} {visit : VisitState}
      (kept : IsKept eq hash (bare hs) capacity visit) where
    pub bookmark_at-push : bookmark_at visit.bookmark (bare ks) ≡ bookmark_at visit.bookmark (bare hs)
    bookmark_at-push = ap (bookmark_at visit.bookmark) bare-push ∙ bookmark_at-append kept (bare_node u ∷ [])

    pub to_visit-push : to_visit_of visit ks ≡ to_visit_of visit hs
    to_visit-push = sym (to_visit-bare visit ks) ∙ ap (to_visit_at visit) bare-push
        ∙ to_visit-append kept (bare_node u ∷ []) ∙ to_visit-bare visit hs

    pub current_at-push : current_at visit.current (bare ks) ≡ current_at visit.current (bare hs)
    current_at-push = grind (arith, bare-push, current_at-append)

    pub IsKept-push : IsEquivalence eq → u.hash ≡ hash u.pair.0 → find eq (pairs_of hs) u.pair.0 ≡ None
        → length hs < capacity → {n : ℕ} → n ≡ capacity → IsKept eq hash (bare ks) n visit
    IsKept-push laws hashed absent room same =
        let of_bare = length-bare hs in
        let none : list_any (eq u.pair.0) (map (λ u. u.pair) (bare hs)) ≡ false =
        ap (list_any (eq u.pair.0)) (keys-bare hs) ∙ list_any-none (eq u.pair.0) (pairs_of hs) absent in
        IsKept-same bare-push same (IsKept-append kept laws (bare_node u) hashed none (omega (arith, of_bare, room)))
