-- What a ring holds is a span, from its front to its back.
use Rattle.lhm_ring.proofs.Names.{AreLinked, Cell, Ends, HasEnds, Held, IsOwned, IsSpan, Link, Links, List, Ptr, [], ap, contents, holders}
use Rattle.lhm_ring.proofs.Names.{length, length-map, null_ptr, prev_at, refl, ring_cells, subst, sym, ℕ, ◌∙◌, ◌∷◌, ◌≡◌}
use Rattle.lhm_ring.proofs.lists.{Last.last_from, LinkRows.AreLinked-cut, LinkRows.AreNeighbours-cut}
use Rattle.lhm_ring.proofs.rings.RingCells.{AreLinked-in_nodes, next_at-null, prev_at-null}
use Rattle.lhm_ring.proofs.rings.{Contents.pointers_of, HeldPointers.IsFresh-owned, Spans.AreLinked-tail, Spans.HasEnds-behind}

module _ {B : Type 0} (e : Ends) (nodes : List (Cell Links B)) {ps : List Ptr} {spare : Link} {n m : ℕ}
    (o : IsOwned (ring_cells e nodes) ps spare n m) where
  abbrev cs : List (Cell Links B)
  cs = ring_cells e nodes

  pub held_row : AreLinked cs (null_ptr ∷ ps) × (prev_at cs null_ptr ≡ last_from null_ptr ps)
  held_row = (
    (AreLinked-cut cs null_ptr ps (null_ptr ∷ []) o.ring.linked).0,
    (AreNeighbours-cut cs null_ptr ps null_ptr [] o.ring.linked).1,
  )

  pub AreLinked-held : AreLinked nodes ps
  AreLinked-held = AreLinked-in_nodes e nodes ps (IsFresh-owned o) (AreLinked-tail cs null_ptr ps held_row.0)

  -- whatever nodes hold it now
  pub IsSpan-row : {ds : List (Cell Links B)} → AreLinked ds ps → (hs : List (Held B)) → pointers_of hs ≡ ps → {f b : Ptr}
      → f ≡ e.first.ptr → b ≡ e.last.ptr → IsSpan ds hs f b n
  IsSpan-row linked hs order is too = record {
    count = sym (length-map hs (λ (t : Held B). t.at)) ∙ ap length order ∙ o.held_count;
    linked = subst (AreLinked _) (sym order) linked;
    ends = subst (λ (z : Ptr × Ptr). HasEnds hs z.0 z.1) (λ i. ((next_at-null e nodes ∙ sym is) i, (prev_at-null e nodes ∙ sym too) i))
        (HasEnds-behind cs null_ptr hs (subst (λ qs. AreLinked cs (null_ptr ∷ qs)) (sym order) held_row.0)
        (ap (last_from null_ptr) order ∙ sym held_row.1));
  }

pub IsSpan-ring : {B : Type 0} (e : Ends) (nodes : List (Cell Links B)) {spare : Link} {n m : ℕ}
    → IsOwned (ring_cells e nodes) (holders nodes) spare n m → {f b : Ptr} → f ≡ e.first.ptr → b ≡ e.last.ptr
    → IsSpan nodes (contents nodes) f b n
IsSpan-ring e nodes o = IsSpan-row e nodes o (AreLinked-held e nodes o) (contents nodes) refl
