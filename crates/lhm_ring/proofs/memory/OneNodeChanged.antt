-- A change of one node alone: what is read of the others stays.
use Rattle.lhm_ring.proofs.Names.{AreLinked, Cell, IsAt, IsSpareList, Links, List, Option, Ptr, [], ap, arith, cell_at, change, false}
use Rattle.lhm_ring.proofs.Names.{has_links, is_there, length, link_of, links_of, refl, same_ptr, subst, sym, true, ◌∙◌, ◌∷◌, ◌≡◌}
use Rattle.lhm_ring.proofs.lists.{Apart.IsFresh, Apart.same_ptr-equal, ForAll.AllByRecursion-map}
use Rattle.lhm_ring.proofs.rings.Writes.{cell_at-change, cell_at-change_other, length-change, links_of-seen}
use Rattle.lhm_ring.specs.SameNodes.{IsSpareList-same, SameLink}

-- every node except the one at p is as it was
pub record OnlyAt {B : Type 0} (cs ds : List (Cell Links B)) (p : Ptr) : Type 0 where
  pub other : (q : Ptr) → same_ptr p q ≡ false → cell_at ds q ≡ cell_at cs q
  pub there : (q : Ptr) → is_there ds q ≡ is_there cs q
  pub count : length ds ≡ length cs

module _ {B : Type 0} where
  pub OnlyAt-change : (p : Ptr) (f : Cell Links B → Cell Links B) (same : (c : Cell Links B) → (f c).at ≡ c.at) (cs : List (Cell Links B))
      → IsAt cs p → OnlyAt cs (change p f cs) p
  OnlyAt-change p f same cs at =
      let c = links_of-seen (cell_at cs p) at.0 at.1 in
      let own = ap (λ o. has_links (links_of o)) (cell_at-change p f same cs c.0 c.1) ∙ sym (ap (λ o. has_links (links_of o)) c.1) in
      record {
        other = λ q n. cell_at-change_other p f same q n cs;
        there = λ q. (elim (same_ptr p q) as (λ y. same_ptr p q ≡ y → is_there (change p f cs) q ≡ is_there cs q) [
          | true ↦ λ t. subst (λ r. is_there (change p f cs) r ≡ is_there cs r) (same_ptr-equal p q t) own
          | false ↦ λ n. ap (λ o. has_links (links_of o)) (cell_at-change_other p f same q n cs)
        ]) refl;
        count = length-change p f cs;
      }

  module _ (cs ds : List (Cell Links B)) (p : Ptr) (other : (q : Ptr) → same_ptr p q ≡ false → cell_at ds q ≡ cell_at cs q) where
    pub AreLinked-other : (s : List Ptr) → IsFresh p s → AreLinked cs s → AreLinked ds s
    AreLinked-other [] f l = tt
    AreLinked-other (x ∷ []) f l = tt
    AreLinked-other (x ∷ y ∷ r) f l = grind (arith, AreLinked-other (y ∷ r) f.1 l.1)

    pub IsSpareList-other : (h : Option Ptr) (ss : List Ptr) → IsFresh p ss → IsSpareList cs h ss → IsSpareList ds h ss
    IsSpareList-other h ss f = IsSpareList-same cs ds h ss
        (AllByRecursion-map (λ q. same_ptr p q ≡ false) (SameLink cs ds)
        (λ q n. ap (λ z. link_of (links_of z)) (other q n)) ss f)
