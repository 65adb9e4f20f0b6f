-- The pointers of what is held: they are apart, so that each is that of one triple.
use Rattle.lhm_ring.proofs.Names.{AtHeld, Cell, Held, IsApart, IsHeld, IsOwned, Link, Links, List, Ptr, arith, false, null_ptr, same_ptr}
use Rattle.lhm_ring.proofs.Names.{sym, ℕ, ◌++◌, ◌∙◌, ◌∷◌, ◌≡◌}
use Rattle.lhm_ring.proofs.lists.Apart.{IsApart-left, IsApart-removed, IsApart-tail, IsFresh, IsFresh-head}
use Rattle.lhm_ring.proofs.lists.{Cuts.cut_alone, ForAll.AllByRecursion-left}
use Rattle.lhm_ring.proofs.rings.Contents.{pointers_of, pointers_of-append}

module _ {B : Type 0} where
  -- without one of them
  pub IsApart-without_node : (xs : List (Held B)) (t : Held B) (ys : List (Held B))
      → IsApart (pointers_of (xs ++ t ∷ ys)) → IsApart (pointers_of (xs ++ ys))
  IsApart-without_node xs t ys d = grind (arith, pointers_of-append, IsApart-removed)

  -- no two lie at one pointer, so what is held there is one, and so is what is behind it
  pub AtHeld-alone : {hs : List (Held B)} {p : Ptr} → IsApart (pointers_of hs) → (h : IsHeld hs p)
      → AtHeld hs p (λ xs t ys. (h.node ≡ t) × (h.after ≡ ys))
  AtHeld-alone {hs} d h xs t ys e at = (cut_alone (λ (t : Held B). t.at) hs h.before h.after xs ys d h.is e (h.at_is ∙ sym at)).1

  module _ {cs : List (Cell Links B)} {ps : List Ptr} {spare : Link} {n m : ℕ} (ok : IsOwned cs ps spare n m) where
    pub IsApart-owned : IsApart ps
    IsApart-owned = IsApart-left ps ok.spare_pointers (IsApart-tail null_ptr (ps ++ ok.spare_pointers) ok.ring.apart)

    pub IsFresh-owned : IsFresh null_ptr ps
    IsFresh-owned = AllByRecursion-left (λ q. same_ptr null_ptr q ≡ false) ps ok.spare_pointers
        (IsFresh-head null_ptr (ps ++ ok.spare_pointers) ok.ring.apart)
