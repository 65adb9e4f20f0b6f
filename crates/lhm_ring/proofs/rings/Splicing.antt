-- All that a ring holds becomes spare.
use Rattle.lhm_ring.proofs.Names.{AllByRecursion, Cell, Ends, HasRow, Held, IsJoined, IsOwned, IsRing, IsRow, IsSpan, IsSpareList, IsThere}
use Rattle.lhm_ring.proofs.Names.{Link, Links, List, Nodes, None, Ptr, SameButLinks, SparesRow, StartsAt, [], ap, arith, cleared, contents}
use Rattle.lhm_ring.proofs.Names.{false, has_links, length, link_of, links_at, next_of, null_ptr, onto, prev_of, ring_cells, same_ptr}
use Rattle.lhm_ring.proofs.Names.{subst, suc, sym, target, ℕ, ◌++◌, ◌+◌, ◌∙◌, ◌∷◌, ◌≡◌}
use Rattle.lhm_ring.proofs.lists.Apart.{IsApart-tail, IsFresh, IsFresh-head}
use Rattle.lhm_ring.proofs.lists.ForAll.{AllByRecursion-always, AllByRecursion-left, AllByRecursion-map, AllByRecursion-right}
use Rattle.lhm_ring.proofs.rings.Joins.{AreLinked-unchanged, AreNeighbours-made, AvoidsSource-fresh, AvoidsTarget-fresh}
use Rattle.lhm_ring.proofs.rings.Rebodied.{keys-rebodied, length-keys, links_at-keys}
use Rattle.lhm_ring.proofs.rings.RingCells.{AllByRecursion-there_in_nodes, AreLinked-in_nodes, IsSpareList-in_nodes, IsSpareList-in_ring}
use Rattle.lhm_ring.proofs.rings.RingCells.{is_there-null, next_at-null}
use Rattle.lhm_ring.proofs.rings.RingSpans.{AreLinked-held, IsSpan-row, held_row}
use Rattle.lhm_ring.proofs.rings.SpareRows.{AllByRecursion-onto, IsApart-onto, SameButLinks-in_ring, StartsAt-next, length-onto}
use Rattle.lhm_ring.proofs.rings.{Contents.pointers_of, HeldPointers.IsFresh-owned, Joins.IsSpareList-unchanged, Spans.AreLinked-tail}
use Rattle.lhm_ring.specs.SameNodes.{AreLinked-same, IsSpareList-same, SameLink}

-- all that a ring holds becomes spare
module _ {B : Type 0} (e : Ends) (nodes : List (Cell Links B)) {ps : List Ptr} {spare : Link} {n m : ℕ}
    (o : IsOwned (ring_cells e nodes) ps spare n m) where
  abbrev cs : List (Cell Links B)
  cs = ring_cells e nodes

  abbrev ss : List Ptr
  ss = o.spare_pointers

  abbrev IsFresh-row : IsFresh null_ptr ps
  IsFresh-row = IsFresh-owned o

  IsFresh-spares : IsFresh null_ptr ss
  IsFresh-spares = AllByRecursion-right (λ q. same_ptr null_ptr q ≡ false) ps ss (IsFresh-head null_ptr (ps ++ ss) o.ring.apart)

  IsRow-whole : {f : Ptr} → f ≡ e.first.ptr → IsRow nodes f n (target spare) ps ss
  IsRow-whole is = record {
    long = o.held_count;
    linked = AreLinked-held e nodes o;
    starts = subst (StartsAt ps) (next_at-null e nodes ∙ sym is) (StartsAt-next cs null_ptr ps (held_row e nodes o).0);
    there = AllByRecursion-there_in_nodes e nodes ps IsFresh-row (AllByRecursion-left (IsThere cs) ps ss o.ring.there.1);
    apart = IsApart-tail null_ptr (ps ++ ss) o.ring.apart;
    chained = IsSpareList-in_nodes e nodes (target spare) ss IsFresh-spares o.ring.chained;
  }

  pub HasRow-ring : {f : Ptr} → f ≡ e.first.ptr → HasRow nodes f n (target spare)
  HasRow-ring is = record { pointers = ps; spare_pointers = ss; row = IsRow-whole is }

  module _ {f : Ptr} (is : f ≡ e.first.ptr) (zs : List (Cell Links B)) (h : Link)
      (s : SparesRow nodes f n (target spare) zs (target h)) where
    abbrev ds : List (Cell Links B)
    ds = ring_cells e zs

    pub spared : SameButLinks nodes zs × IsSpareList zs (target h) (onto ps ss)
    spared = s ps ss (IsRow-whole is)

    same : SameButLinks cs ds
    same = SameButLinks-in_ring e nodes zs spared.0

    module _ {es : List (Cell Links B)} (j : IsJoined ds es null_ptr null_ptr) where
      AllByRecursion-there : AllByRecursion (IsThere es) (null_ptr ∷ onto ps ss)
      AllByRecursion-there =
          let T : Ptr → Type 0 = λ q. IsThere es q in
          let on : (qs : List Ptr) → AllByRecursion (IsThere cs) qs → AllByRecursion T qs =
          AllByRecursion-map (IsThere cs) T (λ q k. j.there q ∙ same.there q ∙ k) in (
            j.there null_ptr ∙ is_there-null e zs,
            AllByRecursion-onto T ps ss
                (on ps (AllByRecursion-left (IsThere cs) ps ss o.ring.there.1))
                (on ss (AllByRecursion-right (IsThere cs) ps ss o.ring.there.1)),
          )

      links-cleared : (q : Ptr) → links_at (cleared es) q ≡ links_at es q
      links-cleared = links_at-keys es (cleared es) (keys-rebodied (λ _ _. None) es)

      IsRing-empty : IsRing (cleared es) [] (target h) (onto ps ss)
      IsRing-empty = record {
        linked = AreLinked-same es (cleared es) (λ q. ap next_of (links-cleared q)) (λ q. ap prev_of (links-cleared q))
            (null_ptr ∷ null_ptr ∷ []) (AreNeighbours-made j, tt);
        chained = IsSpareList-same es (cleared es) (target h) (onto ps ss)
            (AllByRecursion-always (SameLink es (cleared es)) (λ q. ap link_of (links-cleared q)) (onto ps ss))
            (IsSpareList-unchanged j (target h) (onto ps ss) (IsSpareList-in_ring e zs (target h) (onto ps ss)
            (AllByRecursion-onto (λ q. same_ptr null_ptr q ≡ false) ps ss IsFresh-row
            IsFresh-spares) spared.1));
        there = AllByRecursion-map (IsThere es) (IsThere (cleared es)) (λ q k. ap has_links (links-cleared q) ∙ k)
            (null_ptr ∷ onto ps ss) AllByRecursion-there;
        apart = IsApart-onto null_ptr ps ss o.ring.apart;
        count = let long = length-onto ps ss in
            let all : length (cleared es) ≡ suc (length ps + length ss) =
            length-keys es (cleared es) (keys-rebodied (λ _ _. None) es) ∙ j.count ∙ same.count ∙ o.ring.count in
            omega arith;
      }

      pub IsOwned-spliced : IsOwned (cleared es) [] h 0 (m + n)
      IsOwned-spliced = grind (arith, length-onto, IsRing-empty)

    pub IsSpan-spliced : {d : Ends} (fs : List (Cell Links B)) → IsJoined ds (ring_cells d fs) null_ptr null_ptr → (hs : List (Held B))
        → pointers_of hs ≡ ps → {b : Ptr} → b ≡ e.last.ptr → IsSpan fs hs f b n
    IsSpan-spliced {d} fs j hs order = IsSpan-row e nodes o (AreLinked-in_nodes d fs ps IsFresh-row
        (AreLinked-unchanged j ps (AvoidsSource-fresh null_ptr ps IsFresh-row) (AvoidsTarget-fresh null_ptr ps IsFresh-row)
        (AreLinked-same cs ds same.next same.prev ps (AreLinked-tail cs null_ptr ps (held_row e nodes o).0)))) hs order is

-- what is held stays, if nodes are joined
pub contents-joined : {K V : Type 0} (ns ds : Nodes Links K V) {e d : Ends} {a b : Ptr}
    → IsJoined (ring_cells e ns.cells) (ring_cells d ds.cells) a b → contents ds.cells ≡ contents ns.cells
unfolding contents
contents-joined _ _ j = j.held
