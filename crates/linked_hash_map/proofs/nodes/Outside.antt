-- What a cursor has still to visit, and nodes elsewhere: once one of them is out.
use Rattle.linked_hash_map.proofs.Names.{Bool, List, None, Option, Some, [], ap, arith, cond, drop, false, length, map, refl, remove, suc}
use Rattle.linked_hash_map.proofs.Names.{sym, take, true, ℕ, ◌++◌, ◌+◌, ◌<◌, ◌∙◌, ◌∷◌, ◌≡◌, ◌≤◌, ◌⊎◌, index_of-earlier, index_of-later}
use Rattle.linked_hash_map.proofs.Names.{map-remove, same_ptr, index_of, Held, IsKept, VisitState, bare, bookmark_at, pairs_of}
use Rattle.linked_hash_map.proofs.Names.{pos_of_ne-zero, length-map, length-remove, keys_of, Ptr}
use Rattle.linked_hash_map.proofs.{lists.Stretches.stretch-removed, nodes.HeldPairs.keys-bare}

-- a node among the first ones is where it was
pub index_of-among_first : {B : Type 0} (p : Ptr) (front back : List (Held B)) → index_of p front < length front
    → index_of p (front ++ back) ≡ index_of p front
index_of-among_first p [] back h = absurd (omega (arith, h))
index_of-among_first p (x ∷ front) back h =
    (elim (same_ptr x.at p) as (λ y. cond y 0 (index_of p front + 1) < suc (length front)
    → cond y 0 (index_of p (front ++ back) + 1) ≡ cond y 0 (index_of p front + 1)) [
      | true ↦ λ k. refl
      | false ↦ λ k. ap (λ n. n + 1) (index_of-among_first p front back (omega (arith, k)))
    ]) h

-- a stretch that ends before an element is out, and what is behind that element
module _ {B : Type 0} where
  -- the index is before the nodes that are still to be visited, or behind them
  abbrev pub IsElsewhere : ℕ → VisitState → List (Held B) → Type 0
  IsElsewhere index visit us = (index < bookmark_at visit.bookmark us) ⊎ (bookmark_at visit.bookmark us + visit.unvisited ≤ index)

  -- the keys that are still to be visited, among bare nodes
  abbrev pub to_visit_at : VisitState → List (Held B) → List B
  to_visit_at visit us = take visit.unvisited (drop (bookmark_at visit.bookmark us) (map (λ u. u.pair) us))

-- the node at p is the current one, and none of those that are still to be visited
pub record IsCurrent {K V : Type 0} (visit : VisitState) (hs : List (Held (K × V))) (p : Ptr) : Type 0 where
  pub is : visit.current ≡ Some p
  pub lies : index_of p hs < length hs
  pub elsewhere : IsElsewhere (index_of p hs) visit (bare hs)

-- and among nodes with values
module _ {K V : Type 0} where
  abbrev pub to_visit_of : VisitState → List (Held (K × V)) → List K
  to_visit_of visit hs = take visit.unvisited (drop (bookmark_at visit.bookmark (bare hs)) (keys_of (pairs_of hs)))

  pub to_visit-bare : (visit : VisitState) (hs : List (Held (K × V))) → to_visit_at visit (bare hs) ≡ to_visit_of visit hs
  to_visit-bare visit hs = ap (λ ks. take visit.unvisited (drop (bookmark_at visit.bookmark (bare hs)) ks)) (keys-bare hs)

-- a bookmark is at a node, and pairs are unvisited
module _ {K : Type 0} {eq : K → K → Bool} {hash : K → ℕ} {us : List (Held K)} {capacity : ℕ}
    {visit : VisitState} (kept : IsKept eq hash us capacity visit) {p : Ptr}
    (is : visit.bookmark ≡ Some p) where
  pub unvisited_some : 0 < visit.unvisited
  unvisited_some = pos_of_ne-zero (λ z. let h : Some p ≡ None = sym is ∙ kept.ended z in cc)

-- the nodes, of which the one at an index is none to visit
module _ {K : Type 0} {eq : K → K → Bool} {hash : K → ℕ} {us : List (Held K)} {capacity : ℕ}
    {visit : VisitState} (kept : IsKept eq hash us capacity visit) (i : ℕ) (within : i < length us)
    (elsewhere : IsElsewhere i visit us) where
  abbrev Shifts : Option Ptr → Type 0
  Shifts o = ((i < bookmark_at o us) × (bookmark_at o (remove us i) + 1 ≡ bookmark_at o us))
      ⊎ ((bookmark_at o us + visit.unvisited ≤ i) × (bookmark_at o (remove us i) ≡ bookmark_at o us))

  -- without that node the index of the bookmark is less by one if it was behind it, else the same
  shifts : Shifts visit.bookmark
  shifts = grind (arith, index_of-later, unvisited_some, index_of-earlier)

  pub in_reach-out : bookmark_at visit.bookmark (remove us i) + visit.unvisited ≤ length (remove us i)
  in_reach-out = grind (arith, length-remove, shifts)

  -- the same keys are to be visited without it
  pub to_visit-out : to_visit_at visit (remove us i) ≡ to_visit_at visit us
  to_visit-out = grind (arith, length-map, map-remove, stretch-removed, shifts)
