-- A node is listed at another place: what is read stays.
use Rattle.lhm_ring.proofs.Names.{AtCell, BeforeCell, Cell, Ends, IsApart, IsAt, IsOwned, IsPlaceFor, Link, Links, List, Nodes, Ptr, Some}
use Rattle.lhm_ring.proofs.Names.{ap, arith, cell_at, cond, holders, length, length-append, links_of, pointers, ring_cells, same_ptr}
use Rattle.lhm_ring.proofs.Names.{subst, suc, sym, ℕ, ◌++◌, ◌∙◌, ◌∷◌, ◌≡◌}
use Rattle.lhm_ring.proofs.memory.NodeMoved.{Place, Place-for, rest}
use Rattle.lhm_ring.proofs.rings.{Contents.cell_at-middle, Lookup.Cut, Lookup.Cut-links_at}
use Rattle.lhm_ring.specs.SameNodes.{IsOwned-alike}

module _ {L B : Type 0} {cs ds : List (Cell L B)} {p q : Ptr} (k : Cut cs p) (place : IsPlaceFor cs p q)
    (moved : AtCell cs p (λ xs c ys. BeforeCell (xs ++ ys) q (λ us vs. ds ≡ us ++ c ∷ vs))) where
  j : Place (rest k) q
  j = Place-for k place

  is : ds ≡ j.before ++ k.split.node ∷ j.after
  is = moved k.split.before k.split.node k.split.after k.split.is k.split.at_is j.before j.after j.is j.at_is

  cell_at-listed : IsApart (pointers cs) → IsApart (pointers ds) → (r : Ptr) → cell_at ds r ≡ cell_at cs r
  cell_at-listed d f r =
      ap (λ zs. cell_at zs r) is
      ∙ cell_at-middle j.before k.split.node j.after (subst (λ zs. IsApart (pointers zs)) is f) r
      ∙ ap (λ zs. cond (same_ptr k.split.node.at r) (Some k.split.node) (cell_at zs r)) (sym j.is)
      ∙ sym (cell_at-middle k.split.before k.split.node k.split.after (subst (λ zs. IsApart (pointers zs)) k.split.is d) r)
      ∙ ap (λ zs. cell_at zs r) (sym k.split.is)

  length-listed : length ds ≡ length cs
  length-listed =
      let a = ap length is in let b = ap length k.split.is in let c = ap length j.is in
      omega (
        arith,
        length-append j.before (k.split.node ∷ j.after),
        length-append k.split.before (k.split.node ∷ k.split.after),
        length-append j.before j.after,
        length-append k.split.before k.split.after,
      )

cell_at-in_ring : {B : Type 0} (cs ds : List (Cell Links B)) → ((r : Ptr) → cell_at ds r ≡ cell_at cs r) → (e : Ends) (r : Ptr)
    → cell_at (ring_cells e ds) r ≡ cell_at (ring_cells e cs) r
unfolding cell_at
cell_at-in_ring cs ds same e r = grind (arith, same)

-- the nodes n, of which the one at p is listed at the place of q
pub IsOwned-moved : {K V : Type 0} (n d : Nodes Links K V) {p q : Ptr} → IsAt n.cells p → IsPlaceFor n.cells p q
    → AtCell n.cells p (λ xs c ys. BeforeCell (xs ++ ys) q (λ us vs. d.cells ≡ us ++ c ∷ vs))
    → (e : Ends) {qs : List Ptr} {s : Link} {l m : ℕ} → holders d.cells ≡ qs
    → IsOwned (ring_cells e n.cells) qs s l m → IsOwned (ring_cells e d.cells) (holders d.cells) s l m
IsOwned-moved n d {p} at free moved e {s = s} {l = l} {m = m} order ok =
    let k = Cut-links_at n.cells p at.0 at.1 in
    let same = cell_at-in_ring n.cells d.cells (cell_at-listed k free moved n.apart d.apart) e in
    IsOwned-alike (ring_cells e n.cells) (ring_cells e d.cells) (λ r. ap links_of (same r)) (ap suc (length-listed k free moved))
    (subst (λ ps. IsOwned (ring_cells e n.cells) ps s l m) (sym order) ok)
