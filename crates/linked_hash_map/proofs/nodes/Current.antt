-- The pair at the current index.
use Rattle.linked_hash_map.proofs.Names.{Bool, List, None, Option, Some, ap, arith, cond, length, refl, slice_get, subst, sym, ℕ, ◌<◌, ◌∙◌}
use Rattle.linked_hash_map.proofs.Names.{◌≡◌, IsAt-index_of, pointer_of, pointer_of_some, IsAt, index_of, Held, KeepsCounts, TableState}
use Rattle.linked_hash_map.proofs.Names.{Position, MovesCurrent, IsOutside, LinkedMap, Beside, IsKept, Lies, VisitState, bare, current_at}
use Rattle.linked_hash_map.proofs.Names.{cursor_at, map_of, pairs_of, Ptr}
use Rattle.linked_hash_map.proofs.nodes.{HeldPairs.index_of-bare, HeldPairs.length-bare, Kept.IsValid-kept, Kept.no_visit}
use Rattle.linked_hash_map.proofs.nodes.Outside.{IsCurrent, IsElsewhere, to_visit_of}

-- the index is the number of nodes before the pointer
pub current_at-Some : {K V : Type 0} {o : Option Ptr} {p : Ptr} → o ≡ Some p
    → (hs : List (Held (K × V))) → current_at o (bare hs) ≡ index_of p hs
current_at-Some {p = p} is hs = ap (λ z. current_at z (bare hs)) is ∙ index_of-bare p hs

-- where an entry stands
pub current_of-Some : {K V : Type 0} {current : Option Ptr} {o : Option (Position K V)}
    {p : Position K V} → pointer_of_some o ≡ current → o ≡ Some p → current ≡ Some (pointer_of p)
current_of-Some of is = sym of ∙ ap pointer_of_some is

module _ {K V : Type 0} {eq : K → K → Bool} {hash : K → ℕ} (hs : List (Held (K × V)))
    {capacity : ℕ} {visit : VisitState} (kept : IsKept eq hash (bare hs) capacity visit) where
  -- a node lies there
  pub index_of-current : {p : Ptr} → visit.current ≡ Some p → index_of p hs < length hs
  index_of-current is = grind (arith, index_of-bare, length-bare)

  -- and that at the current index
  pub IsAt-current : {o : Option (Position K V)} {at : Position K V} → pointer_of_some o ≡ visit.current
      → o ≡ Some at → IsAt hs (pointer_of at) (current_at visit.current (bare hs))
  IsAt-current {o} {at} of is =
      let current = current_of-Some of is in
      subst (IsAt hs (pointer_of at)) (sym (current_at-Some current hs)) (IsAt-index_of (pointer_of at) hs (index_of-current current))

  -- if the index is outside the pairs to visit, the node is
  pub IsCurrent-outside : {o : Option (Position K V)} {at : Position K V} → pointer_of_some o ≡ visit.current
      → o ≡ Some at → {S : Type 0} (m : LinkedMap K V S) → cursor_at visit (bare hs) ≡ m.cursor → IsOutside m.cursor.current m
      → IsCurrent visit hs (pointer_of at)
  IsCurrent-outside of some m view outside = grind (arith, current_of-Some, index_of-current, current_at-Some)

-- another pair becomes the current one
module _ {K : Type 0} {eq : K → K → Bool} {hash : K → ℕ} {us : List (Held K)} {capacity : ℕ}
    {visit : VisitState} (kept : IsKept eq hash us capacity visit) where
  pub IsKept-current : (o : Option Ptr) → Lies o us → IsKept eq hash us capacity (record visit { current = o })
  IsKept-current o lies = grind arith

  -- and nothing is to be visited
  pub IsKept-visited : (o : Option Ptr) → Lies o us → IsKept eq hash us capacity (record no_visit { current = o })
  IsKept-visited o lies = grind arith

  -- an entry is done with
  pub IsKept-left : (active : Bool) → IsKept eq hash us capacity (record visit { current = cond active None None })
  IsKept-left active = grind (arith, IsKept-current)

-- other nodes of the same counts, among which the current one was moved and written
module _ {K V S : Type 0} {eq : K → K → Bool} {hash : K → ℕ} (s t : TableState (K × V)) (b : Beside S)
    {p : Ptr} (is : b.visit.current ≡ Some p) (kept : IsKept eq hash (bare s.held) s.capacity b.visit) where
  pub MovesCurrent-nodes : {write : K × V → K × V}
      → ((pair : K × V) → slice_get (pairs_of s.held) (index_of p s.held) ≡ Some pair
      → slice_get (pairs_of t.held) (index_of p t.held) ≡ Some (write pair))
      → KeepsCounts s t → to_visit_of b.visit t.held ≡ to_visit_of b.visit s.held
      → IsElsewhere (index_of p t.held) b.visit (bare t.held) → IsKept eq hash (bare t.held) t.capacity b.visit
      → MovesCurrent eq write (map_of s b) (map_of t b)
  MovesCurrent-nodes at counts visits elsewhere still = record {
    pair = grind (arith, current_at-Some);
    keeps = grind arith;
    visit = visits;
    outside = subst (λ k. IsElsewhere k b.visit (bare t.held)) (sym (current_at-Some is t.held)) elsewhere;
    valid = IsValid-kept s.held kept refl refl refl;
    stays_valid = IsValid-kept t.held still refl refl refl;
  }
