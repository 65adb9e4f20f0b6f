-- The bookmark of a cursor: it goes from one pair on to the next.
use Rattle.linked_hash_map.proofs.Names.{Bool, List, None, Option, Some, ap, arith, inl, inr, length, map, slice_get, subst, sym, ℕ, ⊎_elim}
use Rattle.linked_hash_map.proofs.Names.{◌+◌, ◌-◌, ◌<◌, ◌∙◌, ◌∷◌, ◌≡◌, ◌≤◌, ◌⊎◌, IsAt-index_of, PlaceAt-within, IsApart, IsAt, PlaceAt}
use Rattle.linked_hash_map.proofs.Names.{index_of, Held, IsKept, VisitState, bare, bookmark_at, pairs_of, keys_of, Ptr}
use Rattle.linked_hash_map.proofs.lists.Stretches.{stretch-step, take-none}
use Rattle.linked_hash_map.proofs.nodes.{CutNodes.index_of-at, Outside.IsElsewhere, Outside.to_visit_of}
use Rattle.linked_hash_map.proofs.nodes.HeldPairs.{index_of-bare, length-bare}

module _ {K V : Type 0} where
  pub bookmark-bare : (o : Option Ptr) (hs : List (Held (K × V))) → bookmark_at o (bare hs) ≡ bookmark_at o hs
  bookmark-bare o hs = grind (arith, index_of-bare)

  -- where a place is an index, so is a bookmark there
  bookmark_at-place : (hs : List (Held (K × V))) (o : Option Ptr) (k : ℕ) → IsApart (map (λ t. t.at) hs) → PlaceAt hs o k → k < length hs
      → bookmark_at o hs ≡ k
  bookmark_at-place hs None k apart place below = absurd (PlaceAt-within hs k below place)
  bookmark_at-place hs (Some q) k apart at below = index_of-at hs k at apart

-- a visit goes on from the pair at p: its bookmark is then at the next pair, if one is left
pub record Goes {B : Type 0} (hs : List (Held B)) (p : Ptr) (old new : VisitState) : Type 0 where
  pub bookmarked : old.bookmark ≡ Some p
  pub fewer : new.unvisited ≡ old.unvisited - 1
  pub current : new.current ≡ Some p
  pub none : new.unvisited ≡ 0 → new.bookmark ≡ None
  pub next : 0 < new.unvisited → (i : ℕ) → IsAt hs p i → PlaceAt hs new.bookmark (i + 1)
  pub apart : 0 < new.unvisited → IsApart (map (λ t. t.at) hs)

module _ {K V : Type 0} {eq : K → K → Bool} {hash : K → ℕ} (hs : List (Held (K × V)))
    {capacity : ℕ} {old : VisitState} (kept : IsKept eq hash (bare hs) capacity old) {p : Ptr}
    (bookmarked : old.bookmark ≡ Some p) where
  pub IsAt-bookmark : IsAt hs p (index_of p hs)
  IsAt-bookmark = grind (arith, index_of-bare, length-bare, IsAt-index_of)

module _ {K V : Type 0} {eq : K → K → Bool} {hash : K → ℕ} (hs : List (Held (K × V))) {p : Ptr}
    {capacity : ℕ} {old new : VisitState} (kept : IsKept eq hash (bare hs) capacity old)
    (goes : Goes hs p old new) where
  abbrev nodes : List (Held K)
  nodes = bare hs

  reach : index_of p nodes + old.unvisited ≤ length nodes
  reach = subst (λ o. bookmark_at o nodes + old.unvisited ≤ length nodes) goes.bookmarked kept.in_reach

  next_index : 0 < new.unvisited → bookmark_at new.bookmark nodes ≡ index_of p nodes + 1
  next_index some =
      let at = index_of-bare p hs in let long = length-bare hs in
      let next = bookmark_at-place hs new.bookmark (index_of p hs + 1) (goes.apart some)
      (goes.next some (index_of p hs) (IsAt-bookmark hs kept goes.bookmarked)) (omega (arith, at, long, reach, goes.fewer, some)) in
      bookmark-bare new.bookmark hs ∙ next ∙ ap (λ n. n + 1) (sym at)

  -- nothing is left to visit, or the bookmark is at the next index
  moved : ((new.unvisited ≡ 0) × (bookmark_at new.bookmark nodes ≡ 0)) ⊎ (bookmark_at new.bookmark nodes ≡ index_of p nodes + 1)
  moved = grind (arith, next_index)

  pub outside_on : IsElsewhere (index_of p nodes) new nodes
  outside_on = ⊎_elim (λ m. inr (omega (arith, m.0, m.1))) (λ m. inl (omega (arith, m))) moved

  pub kept_on : IsKept eq hash nodes capacity new
  kept_on = grind (arith, moved, reach)

  pub to_visit_on : (k : K) → slice_get (keys_of (pairs_of hs)) (index_of p nodes) ≡ Some k → to_visit_of old hs ≡ k ∷ to_visit_of new hs
  to_visit_on k there = grind (arith, stretch-step, take-none, moved)
