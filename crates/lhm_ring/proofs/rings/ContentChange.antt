-- What is held at one pointer changes, and nothing else.
use Rattle.lhm_ring.proofs.Names.{Cell, ChangesOnly, Ends, Held, IsApart, IsAt, IsOwned, Link, Links, List, None, Option, Ptr, Some, []}
use Rattle.lhm_ring.proofs.Names.{ap, arith, cell, chaining_to, change_at, cond, content_of, false, has_links, held, is_there, length}
use Rattle.lhm_ring.proofs.Names.{link_at, link_of, linked_to, links_of, next_at, next_of, one_of, prev_at, prev_of, refl, ring_cells}
use Rattle.lhm_ring.proofs.Names.{same_ptr, subst, sym, target, with_body, with_links, ℕ, ◌++◌, ◌∙◌, ◌∷◌, ◌≡◌}
use Rattle.lhm_ring.proofs.lists.Apart.{IsApart-tail, IsFresh, IsFresh-head, same_ptr-reflexive, same_ptr-symmetric}
use Rattle.lhm_ring.proofs.lists.{Cuts.same_ptr-fresh, ForAll.AllByRecursion-map}
use Rattle.lhm_ring.proofs.rings.Contents.{content, pointers_of, pointers_of-append}
use Rattle.lhm_ring.proofs.rings.Rebodied.{IsOwned-keys, keys, keys-with_body}
use Rattle.lhm_ring.proofs.rings.Writes.{cell_at-change_other, length-change, reader-with_links_same}
use Rattle.lhm_ring.specs.SameNodes.{IsOwned-same, SameLink}

-- what is held lies at pointers that are apart, so that a change of one is a change of no other
module _ {B : Type 0} where
  change_at-fresh : (p : Ptr) (f : Held B → Held B) (ys : List (Held B)) → IsFresh p (pointers_of ys) → change_at p f ys ≡ ys
  change_at-fresh p f [] d = refl
  change_at-fresh p f (y ∷ ys) d = λ i. cond ((same_ptr-symmetric y.at p ∙ d.0) i) (f y) y ∷ change_at-fresh p f ys d.1 i

  change_at-split : (p : Ptr) (f : Held B → Held B) (xs : List (Held B)) (t : Held B) (ys : List (Held B)) → t.at ≡ p
      → IsApart (pointers_of (xs ++ t ∷ ys)) → change_at p f (xs ++ t ∷ ys) ≡ xs ++ f t ∷ ys
  change_at-split p f [] t ys at d = grind (arith, IsFresh-head, same_ptr-reflexive, change_at-fresh)
  change_at-split p f (x ∷ xs) t ys at d =
      let far = IsFresh-head x.at (pointers_of (xs ++ t ∷ ys)) d in
      λ i. cond ((ap (same_ptr x.at) (sym at) ∙ same_ptr-fresh (λ t. t.at) x.at xs t ys far) i)
      (f x) x ∷ change_at-split p f xs t ys at (IsApart-tail x.at (pointers_of (xs ++ t ∷ ys)) d) i

  pub ChangesOnly-apart : {hs : List (Held B)} → IsApart (pointers_of hs) → (p : Ptr) → ChangesOnly hs p
  ChangesOnly-apart d p xs t ys e at f =
      ap (change_at p f) e ∙ change_at-split p f xs t ys at (subst (λ hs. IsApart (pointers_of hs)) e d)

  -- the same pointers, if another triple lies at one of them
  pub pointers_of-changed : (us : List (Held B)) (t w : Held B) (vs : List (Held B)) → w.at ≡ t.at
      → pointers_of (us ++ w ∷ vs) ≡ pointers_of (us ++ t ∷ vs)
  pointers_of-changed us t w vs at =
      pointers_of-append us (w ∷ vs) ∙ ap (λ q. pointers_of us ++ q ∷ pointers_of vs) at ∙ sym (pointers_of-append us (t ∷ vs))

  pub content-linked : (c : Cell Links B) {t : Held B} (o : Link) → content c ≡ t ∷ []
      → content (cell c.at (chaining_to o c.links) c.body) ≡ linked_to (target o) t ∷ []
  content-linked c {t} o e = by c.body e
    where
      by : (b : Option B) → one_of (content_of c.at (Some c.links) b) ≡ t ∷ []
          → one_of (content_of c.at (Some (chaining_to o c.links)) b) ≡ linked_to (target o) t ∷ []
      by None e = absurd cc
      by (Some x) e = let same : held c.at c.links.hash (link_of (Some c.links)) x ≡ t = cc in ap (λ u. linked_to (target o) u ∷ []) same

  -- the body of a node is written, or its chain link
  pub IsOwned-with_body : (e : Ends) (nodes : List (Cell Links B)) {ds : List (Cell Links B)} {ps : List Ptr} {spare : Link} {n m : ℕ}
      → IsOwned (ring_cells e nodes) ps spare n m → (p : Ptr) (b : Option B) → ds ≡ with_body p b nodes
      → IsOwned (ring_cells e ds) ps spare n m
  IsOwned-with_body e nodes {ds} ok p b is = IsOwned-keys e nodes ds (ap keys is ∙ keys-with_body p b nodes) ok

  module _ {cs ds : List (Cell Links B)} {ps : List Ptr} {spare : Link} {n m : ℕ} (ok : IsOwned cs ps spare n m) (p : Ptr)
      (at : IsAt cs p) where
    pub IsOwned-chained : (o : Link) → IsFresh p ok.spare_pointers → ds ≡ with_links p (chaining_to o at.0) cs → IsOwned ds ps spare n m
    IsOwned-chained o fresh is =
        let k : Links = chaining_to o at.0 in
        let same = λ (q : Ptr) (away : same_ptr p q ≡ false). ap (λ zs. link_at zs q) is
        ∙ ap (λ z. link_of (links_of z)) (cell_at-change_other p (λ c. cell c.at k c.body) (λ c. refl) q away cs) in
        IsOwned-same cs ds (λ q. ap (λ zs. next_at zs q) is ∙ reader-with_links_same p k cs at.1 next_of refl q)
        (λ q. ap (λ zs. prev_at zs q) is ∙ reader-with_links_same p k cs at.1 prev_of refl q)
        (λ q. ap (λ zs. is_there zs q) is ∙ reader-with_links_same p k cs at.1 has_links refl q)
        (ap length is ∙ length-change p (λ c. cell c.at k c.body) cs) ok
        (AllByRecursion-map (λ q. same_ptr p q ≡ false) (SameLink cs ds) same ok.spare_pointers fresh)
