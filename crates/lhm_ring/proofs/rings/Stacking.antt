-- Nodes are made on top of others.
use Rattle.lhm_ring.proofs.Names.{AreBlocks, Cell, Ends, IsApart, IsOwned, IsRing, IsStacked, Link, Links, List, None, Option, Ptr, Some}
use Rattle.lhm_ring.proofs.Names.{ap, arith, cell, contents, length, pointers, refl, ring_cells, subst, suc, sym, target, zero, ℕ, ◌+◌}
use Rattle.lhm_ring.proofs.Names.{◌^◌, ◌∙◌, ◌∷◌, ◌≡◌, ◌≤◌}
use Rattle.lhm_ring.{proofs.lists.Apart.IsApart-tail, proofs.memory.NodeAdded.IsRing-added, specs.declared.pointer.NodePointer.NodePointer}

module _ {B : Type 0} where
  pub IsStacked-none : (cs : List (Cell Links B)) (s : Link) → IsStacked cs s 0 cs s
  unfolding IsStacked
  IsStacked-none cs s = (refl, refl)

  pub IsStacked-push : (cs : List (Cell Links B)) (s : Link) (n : ℕ) {ds : List (Cell Links B)} {l : Links} (p : NodePointer)
      {es : List (Cell Links B)} (top : Link)
      → IsStacked cs s n ds l.link → es ≡ cell p.ptr l None ∷ ds → target top ≡ Some p.ptr → IsStacked cs s (n + 1) es top
  unfolding IsStacked
  IsStacked-push cs s n {ds} {l} p {es} top k e et = let count : suc n ≡ n + 1 = omega arith in
      subst (λ m. IsStacked cs s m es top) count
      (record { pointer = p.ptr; below = ds; links = l; top_is = et; nodes_are = e; stacked = k })

-- the nodes ds are a ring with n spare ones more
pub record RingStacked {B : Type 0} (e : Ends) (ds : List (Cell Links B)) (ps ss : List Ptr) (spare : Option Ptr) (n : ℕ) : Type 0 where
  pub spare_pointers : List Ptr
  pub ring : IsRing (ring_cells e ds) ps spare spare_pointers
  pub count : length spare_pointers ≡ n + length ss

-- more of the spare nodes are counted
pub IsOwned-raised : {B : Type 0} {cs : List (Cell Links B)} {ps : List Ptr} {spare : Link} {n m : ℕ} → IsOwned cs ps spare n m → (k : ℕ)
    → suc (n + k) ≤ length cs → n + k ≤ 2 ^ 59 → IsOwned cs ps spare n k
IsOwned-raised ok k enough small = grind arith

module _ {B : Type 0} (e : Ends) where
  -- a ring with spare nodes more
  RingStacked-ring : (n : ℕ) (cs : List (Cell Links B)) (s : Link) (ds : List (Cell Links B)) (f : Link) {ps ss : List Ptr}
      → IsStacked cs s n ds f → IsApart (pointers ds) → AreBlocks (pointers ds) → IsRing (ring_cells e cs) ps (target s) ss
      → RingStacked e ds ps ss (target f) n
  unfolding IsStacked
  RingStacked-ring zero cs s ds f {ps} {ss} k d b r = record {
    spare_pointers = ss;
    ring = subst (λ (z : List (Cell Links B) × Link). IsRing (ring_cells e z.0) ps (target z.1) ss) (λ i. (sym k.0 i, sym k.1 i)) r;
    count = omega arith;
  }
  RingStacked-ring (suc n) cs s ds f {ps} {ss} k d b r =
      let p = k.pointer in let es = k.below in let l = k.links in
      let d' : IsApart (pointers (cell p l None ∷ es)) = subst (λ zs. IsApart (pointers zs)) k.nodes_are d in
      let b' : AreBlocks (pointers (cell p l None ∷ es)) = subst (λ zs. AreBlocks (pointers zs)) k.nodes_are b in
      let on = RingStacked-ring n cs s es l.link k.stacked (IsApart-tail p (pointers es) d') b'.1 r in
      let ring : IsRing (ring_cells e (cell p l None ∷ es)) ps (Some p) (p ∷ on.spare_pointers) =
      IsRing-added e es p l b'.0 d' on.ring refl in
      let long = on.count in
      record {
        spare_pointers = p ∷ on.spare_pointers;
        ring = subst (λ (z : List (Cell Links B) × Option Ptr). IsRing (ring_cells e z.0) ps z.1
            (p ∷ on.spare_pointers)) (λ i. (sym k.nodes_are i, sym k.top_is i)) ring;
        count = omega arith;
      }

  -- more nodes are stacked on the spare ones
  module _ (cs ds : List (Cell Links B)) {ps : List Ptr} {spare : Link} (f : Link) {n m : ℕ} (k : ℕ)
      (ok : IsOwned (ring_cells e cs) ps spare n m) (s : IsStacked cs spare k ds f)
      (d : IsApart (pointers ds)) (b : AreBlocks (pointers ds)) where
    RingStacked-held : RingStacked e ds ps ok.spare_pointers (target f) k
    RingStacked-held = RingStacked-ring k cs spare ds f s d b ok.ring

    pub IsOwned-stacked : IsOwned (ring_cells e ds) ps f n m
    IsOwned-stacked = grind (arith, RingStacked-held)

-- they hold nothing
pub contents-stacked : {B : Type 0} (n : ℕ) (cs : List (Cell Links B)) (s : Link) (ds : List (Cell Links B)) (f : Link)
    → IsStacked cs s n ds f → contents ds ≡ contents cs
unfolding IsStacked contents
contents-stacked zero cs s ds f k = ap contents k.0
contents-stacked (suc n) cs s ds f k = ap contents k.nodes_are ∙ contents-stacked n cs s k.below k.links.link k.stacked
