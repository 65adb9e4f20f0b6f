-- A node more among the spare ones.
use Rattle.lhm_ring.proofs.Names.{Cell, Ends, IsApart, IsRing, IsThere, Links, List, None, Option, Ptr, Some, [], ap, arith, cell, cell_at}
use Rattle.lhm_ring.proofs.Names.{cond, false, has_links, is_block, link_of, links_of, null_ptr, pointers, refl, ring_cells, same_ptr}
use Rattle.lhm_ring.proofs.Names.{subst, suc, true, ◌++◌, ◌∙◌, ◌∷◌, ◌≡◌}
use Rattle.lhm_ring.proofs.lists.Apart.{IsApart-added, IsFresh, IsFresh-head, same_ptr-equal, same_ptr-reflexive, same_ptr-symmetric}
use Rattle.lhm_ring.proofs.lists.ForAll.{AllByRecursion-append, AllByRecursion-left, AllByRecursion-map, AllByRecursion-right}
use Rattle.lhm_ring.proofs.memory.OneNodeChanged.{AreLinked-other, IsSpareList-other}
use Rattle.lhm_ring.proofs.rings.{NodeOut.IsOut, NodeOut.IsRing-spared, RingCells.cell_at-ring_cells, RingCells.same_ptr-null}

false_true : false ≡ true → ⊥
false_true e = cc

module _ {B : Type 0} (e : Ends) (nodes : List (Cell Links B)) (p : Ptr) (l : Links)
    (b : is_block p ≡ true) (d : IsApart (pointers (cell p l None ∷ nodes))) where
  abbrev cs : List (Cell Links B)
  cs = ring_cells e nodes

  abbrev ds : List (Cell Links B)
  ds = ring_cells e (cell p l None ∷ nodes)

  cell_at-other : (q : Ptr) → same_ptr p q ≡ false → cell_at ds q ≡ cell_at cs q
  unfolding cell_at
  cell_at-other q n = grind arith

  cell_at-newest : cell_at (cell p l None ∷ nodes) p ≡ Some (cell p l None)
  unfolding cell_at
  cell_at-newest = ap (λ y. cond y (Some (cell p l None)) (cell_at nodes p)) (same_ptr-reflexive p)

  cell_at-added : cell_at ds p ≡ Some (cell p l None)
  cell_at-added = cell_at-ring_cells e (cell p l None ∷ nodes) p b ∙ cell_at-newest

  same_ptr-nowhere : (zs : List (Cell Links B)) → IsFresh p (pointers zs) → (q : Ptr) → IsThere zs q → same_ptr p q ≡ false
  unfolding cell_at
  same_ptr-nowhere [] f q h = absurd (false_true h)
  same_ptr-nowhere (z ∷ zs) f q h =
      (elim (same_ptr z.at q) as (λ y. same_ptr z.at q ≡ y
      → has_links (links_of (cond y (Some z) (cell_at zs q))) ≡ true → same_ptr p q ≡ false) [
        | true ↦ λ s k. subst (λ r. same_ptr p r ≡ false) (same_ptr-equal z.at q s) f.0
        | false ↦ λ s k. same_ptr-nowhere zs f.1 q k
      ]) refl h

  same_ptr-there : (q : Ptr) → IsThere cs q → same_ptr p q ≡ false
  same_ptr-there = same_ptr-nowhere cs (same_ptr-symmetric p null_ptr ∙ same_ptr-null p b, IsFresh-head p (pointers nodes) d)

  is_there-added : (q : Ptr) → IsThere cs q → IsThere ds q
  is_there-added q h = ap (λ z. has_links (links_of z)) (cell_at-other q (same_ptr-there q h)) ∙ h

  module _ {ps : List Ptr} {spare : Option Ptr} {ss : List Ptr} (r : IsRing cs ps spare ss) (f : link_of (Some l) ≡ spare) where
    abbrev T : Ptr → Type 0
    T q = IsThere cs q

    IsFresh-added : IsFresh p (null_ptr ∷ (ps ++ ss))
    IsFresh-added = AllByRecursion-map T (λ q. same_ptr p q ≡ false) same_ptr-there (null_ptr ∷ (ps ++ ss)) r.there

    abbrev P : Ptr → Type 0
    P q = same_ptr p q ≡ false

    IsOut-added : IsOut ds p ps spare ss
    IsOut-added = record {
      linked = AreLinked-other cs ds p cell_at-other (null_ptr ∷ (ps ++ null_ptr ∷ []))
          (IsFresh-added.0, AllByRecursion-append P ps (null_ptr ∷ []) (AllByRecursion-left P ps ss IsFresh-added.1) (IsFresh-added.0, tt))
          r.linked;
      chained = IsSpareList-other cs ds p cell_at-other spare ss (AllByRecursion-right P ps ss IsFresh-added.1) r.chained;
      there = (
        ap (λ z. has_links (links_of z)) cell_at-added,
        AllByRecursion-map T (IsThere ds) is_there-added (null_ptr ∷ (ps ++ ss)) r.there,
      );
      apart = IsApart-added p (null_ptr ∷ (ps ++ ss)) IsFresh-added r.apart;
      count = ap suc r.count;
    }

    pub IsRing-added : IsRing ds ps (Some p) (p ∷ ss)
    IsRing-added = IsRing-spared IsOut-added (ap (λ z. link_of (links_of z)) cell_at-added ∙ f)
