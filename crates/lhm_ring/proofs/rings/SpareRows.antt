-- Rows of nodes that become spare, and what a change of chain links alone keeps.
use Rattle.lhm_ring.proofs.Names.{AllByRecursion, AreLinked, Cell, Ends, HasRow, IsApart, IsRow, IsSpareList, IsThere, Link, Links, List}
use Rattle.lhm_ring.proofs.Names.{Option, P, Ptr, SameButLinks, Some, SparesRow, StartsAt, [], ap, arith, cell, cell_at, chaining_to}
use Rattle.lhm_ring.proofs.Names.{contents, false, has_links, length, link_at, links_at, links_of, next_at, next_of, onto, prev_of, refl}
use Rattle.lhm_ring.proofs.Names.{ring_cells, same_ptr, subst, suc, sym, target, with_links, ℕ, ◌++◌, ◌+◌, ◌-◌, ◌<◌, ◌∙◌, ◌∷◌, ◌≡◌}
use Rattle.lhm_ring.proofs.lists.Apart.{IsApart-inserted, IsApart-removed, IsApart-tail, IsFresh-head, IsFresh-middle, same_ptr-reflexive}
use Rattle.lhm_ring.proofs.lists.ForAll.{AllByRecursion-map, AllByRecursion-right}
use Rattle.lhm_ring.proofs.rings.Holders.{holders-with_links, triples-chained}
use Rattle.lhm_ring.proofs.rings.Writes.{cell_at-change_other, length-change, links_at-with_links, reader-with_links_same}
use Rattle.lhm_ring.{proofs.memory.OneNodeChanged.IsSpareList-other, proofs.rings.Spans.AreLinked-tail, specs.SameNodes.AreLinked-same}

-- the pointers of a row go onto others
pub AllByRecursion-onto : (P : Ptr → Type 0) (ps ss : List Ptr) → AllByRecursion P ps → AllByRecursion P ss → AllByRecursion P (onto ps ss)
AllByRecursion-onto P [] ss a b = b
AllByRecursion-onto P (p ∷ ps) ss a b = AllByRecursion-onto P ps (p ∷ ss) a.1 (a.0, b)

pub length-onto : (ps ss : List Ptr) → length (onto ps ss) ≡ length ps + length ss
length-onto [] ss = omega arith
length-onto (p ∷ ps) ss = let e = length-onto ps (p ∷ ss) in omega arith

pub IsApart-onto : (g : Ptr) (ps ss : List Ptr) → IsApart (g ∷ (ps ++ ss)) → IsApart (g ∷ onto ps ss)
IsApart-onto g [] ss d = d
IsApart-onto g (p ∷ ps) ss d = IsApart-onto g ps (p ∷ ss)
    (IsApart-inserted (g ∷ ps) p ss (IsFresh-middle (g ∷ []) p (ps ++ ss) d)
    (IsApart-removed (g ∷ []) p (ps ++ ss) d))

module _ {B : Type 0} where
  -- what the write of a chain link keeps
  SameButLinks-chaining_to : (cs : List (Cell Links B)) (p : Ptr) (o : Link) (la : Links)
      → links_at cs p ≡ Some la → SameButLinks cs (with_links p (chaining_to o la) cs)
  SameButLinks-chaining_to cs p o la e =
      let l = chaining_to o la in
      record {
        next = reader-with_links_same p l cs e next_of refl;
        prev = reader-with_links_same p l cs e prev_of refl;
        there = reader-with_links_same p l cs e has_links refl;
        count = length-change p (λ c. cell c.at l c.body) cs;
        order = holders-with_links p l cs;
        held = triples-chained cs p o la e;
      }

  SameButLinks-both : (cs ds es : List (Cell Links B)) → SameButLinks cs ds → SameButLinks ds es → SameButLinks cs es
  SameButLinks-both cs ds es a b = grind arith

  pub StartsAt-next : (cs : List (Cell Links B)) (x : Ptr) (xs : List Ptr) → AreLinked cs (x ∷ xs) → StartsAt xs (next_at cs x)
  StartsAt-next cs x xs k = grind arith

  -- a row of some nodes starts with its first
  starts_with : {cs : List (Cell Links B)} {f : Ptr} {n : ℕ} {spare : Option Ptr} (ps : List Ptr) {ss : List Ptr} → 0 < n
      → IsRow cs f n spare ps ss → (rs : List Ptr) × (ps ≡ f ∷ rs)
  starts_with ps h r = grind arith

  pub is_there-row : {cs : List (Cell Links B)} {f : Ptr} {n : ℕ} {spare : Option Ptr} → 0 < n → HasRow cs f n spare → IsThere cs f
  is_there-row {cs} h r = (subst (AllByRecursion (IsThere cs)) (starts_with r.pointers h r.row).1 r.row.there).0

  -- the first node of a row becomes the first spare one
  module _ (cs : List (Cell Links B)) (p : Ptr) (spare : Link) {la : Links}
      (ea : links_at cs p ≡ Some la) {next : Ptr} (is : next ≡ la.next.ptr) {n : ℕ}
      (some : 0 < n) where
    abbrev after : List (Cell Links B)
    after = with_links p (chaining_to spare la) cs

    link_at-now : link_at after p ≡ target spare
    link_at-now = grind (arith, links_at-with_links, same_ptr-reflexive)

    IsRow-shorter : (rs ss : List Ptr) → IsRow cs p n (target spare) (p ∷ rs) ss → IsRow after next (n - 1) (Some p) rs (p ∷ ss)
    IsRow-shorter rs ss r =
        let same = SameButLinks-chaining_to cs p spare la ea in let long = r.long in let free = IsFresh-head p (rs ++ ss) r.apart in
        let chained = IsSpareList-other cs after p
        (λ q n. cell_at-change_other p (λ c. cell c.at (chaining_to spare la) c.body) (λ c. refl) q
        n cs) (target spare) ss
        (AllByRecursion-right (λ q. same_ptr p q ≡ false) rs ss free) r.chained in
        record {
          long = omega arith;
          linked = AreLinked-same cs after same.next same.prev rs (AreLinked-tail cs p rs r.linked);
          starts = subst (StartsAt rs) (ap next_of ea ∙ sym is) (StartsAt-next cs p rs r.linked);
          there = AllByRecursion-map (IsThere cs) (IsThere after) (λ q h. same.there q ∙ h) rs r.there.1;
          apart = IsApart-inserted rs p ss free (IsApart-tail p (rs ++ ss) r.apart);
          chained = (refl, subst (λ h. IsSpareList after h ss) (sym link_at-now) chained);
        }

    -- cut there
    shorter : (ps ss : List Ptr) (r : IsRow cs p n (target spare) ps ss)
        → IsRow after next (n - 1) (Some p) (starts_with ps some r).0 (p ∷ ss)
    shorter ps ss r = let c = starts_with ps some r in IsRow-shorter c.0 ss (subst (λ qs. IsRow cs p n (target spare) qs ss) c.1 r)

    pub HasRow-next : HasRow cs p n (target spare) → HasRow after next (n - 1) (Some p)
    HasRow-next r = record {
      pointers = (starts_with r.pointers some r.row).0;
      spare_pointers = p ∷ r.spare_pointers;
      row = shorter r.pointers r.spare_pointers r.row;
    }

    pub SparesRow-step : (ds : List (Cell Links B)) (s : Option Ptr) → SparesRow after next (n - 1)
        (Some p) ds s → SparesRow cs p n (target spare) ds s
    SparesRow-step ds s k ps ss r =
        let c = starts_with ps some r in let on = k c.0 (p ∷ ss) (shorter ps ss r) in (
          SameButLinks-both cs after ds (SameButLinks-chaining_to cs p spare la ea) on.0,
          subst (λ qs. IsSpareList ds s (onto qs ss)) (sym c.1) on.1,
        )

  pub SparesRow-done : (cs : List (Cell Links B)) (f : Ptr) {n : ℕ} (spare : Option Ptr) → n ≡ 0 → SparesRow cs f n spare cs spare
  SparesRow-done cs f spare e h ss r = grind arith

-- the same nodes of a ring, except for their chain links
module _ {B : Type 0} (e : Ends) (cs ds : List (Cell Links B)) (same : SameButLinks cs ds) where
  reader-ring_cells : {X : Type 0} (f : Option (Cell Links B) → X) (q : Ptr) → f (cell_at ds q) ≡ f (cell_at cs q)
      → f (cell_at (ring_cells e ds) q) ≡ f (cell_at (ring_cells e cs) q)
  unfolding cell_at
  reader-ring_cells f q h = grind arith

  pub SameButLinks-in_ring : SameButLinks (ring_cells e cs) (ring_cells e ds)
  unfolding contents
  SameButLinks-in_ring = record {
    next = λ q. reader-ring_cells (λ z. next_of (links_of z)) q (same.next q);
    prev = λ q. reader-ring_cells (λ z. prev_of (links_of z)) q (same.prev q);
    there = λ q. reader-ring_cells (λ z. has_links (links_of z)) q (same.there q);
    count = ap suc same.count;
    order = same.order;
    held = same.held;
  }
