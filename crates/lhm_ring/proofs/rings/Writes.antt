-- What a write of links changes, and what it leaves.
use Rattle.lhm_ring.proofs.Names.{Bool, Cell, IsAt, IsJoined, IsThere, LeadsBack, LeadsOn, Link, Links, List, None, Option, Ptr, Some, []}
use Rattle.lhm_ring.proofs.Names.{ap, arith, cell, cell_at, change, cond, content_of, false, has_links, is_there, leading_back, leading_on}
use Rattle.lhm_ring.proofs.Names.{length, link_of, links_at, links_of, next_of, prev_of, refl, same_ptr, subst, sym, true, with_body}
use Rattle.lhm_ring.proofs.{Names.with_links, Names.◌∙◌, Names.◌∷◌, Names.◌≡◌, lists.Apart.same_ptr-equal}
use Rattle.lhm_ring.proofs.{lists.Options.Some-injective, lists.Options.none_some, rings.Holders.contents-with_links}

pub cond-ap : {X Y : Type 0} (f : X → Y) (y : Bool) (u v : X) → f (cond y u v) ≡ cond y (f u) (f v)
cond-ap f y u v = grind arith

pub cond-same : {X : Type 0} (y : Bool) (u v : X) → (y ≡ true → u ≡ v) → cond y u v ≡ v
cond-same y u v h = grind arith

-- two links that show the same of what a node holds
abbrev pub ShowsSame : Links → Links → Type 0
ShowsSame l la = (l.hash ≡ la.hash) × (link_of (Some l) ≡ link_of (Some la))

pub content_of-shown_same : {B : Type 0} (q : Ptr) (l la : Links) → ShowsSame l la → (b : Option B)
    → content_of q (Some l) b ≡ content_of q (Some la) b
content_of-shown_same q l la h b = grind arith

module _ {L B : Type 0} (p : Ptr) (f : Cell L B → Cell L B) (same : (c : Cell L B) → (f c).at ≡ c.at) where
  pub cell_at-change : (cs : List (Cell L B)) (c : Cell L B) → cell_at cs p ≡ Some c → cell_at (change p f cs) p ≡ Some (f c)
  unfolding cell_at change
  cell_at-change [] c e = absurd (none_some c e)
  cell_at-change (d ∷ cs) c e =
      (elim (same_ptr d.at p) as (λ y. same_ptr d.at p ≡ y → cond y (Some d) (cell_at cs p) ≡ Some c
      → cell_at (cond y (f d ∷ cs) (d ∷ change p f cs)) p ≡ Some (f c)) [
        | true ↦ grind (arith, Some-injective)
        | false ↦ λ t h. ap (λ y. cond y (Some d) (cell_at (change p f cs) p)) t ∙ cell_at-change cs c h
      ]) refl e

  pub cell_at-change_other : (q : Ptr) → same_ptr p q ≡ false → (cs : List (Cell L B)) → cell_at (change p f cs) q ≡ cell_at cs q
  unfolding cell_at change
  cell_at-change_other q n [] = refl
  cell_at-change_other q n (d ∷ cs) = grind (arith, same_ptr-equal, cell_at-change_other q n cs)

pub length-change : {L B : Type 0} (p : Ptr) (f : Cell L B → Cell L B) (cs : List (Cell L B)) → length (change p f cs) ≡ length cs
unfolding change
length-change p f [] = refl
length-change p f (d ∷ cs) = grind (arith, length-change p f cs)

-- a node is changed twice
module _ {L B : Type 0} where
  pub change-twice : (p : Ptr) (f g : Cell L B → Cell L B) → ((c : Cell L B) → (f c).at ≡ c.at) → (cs : List (Cell L B))
      → change p g (change p f cs) ≡ change p (λ c. g (f c)) cs
  unfolding change
  change-twice p f g same [] = refl
  change-twice p f g same (c ∷ cs) = grind (arith, change-twice p f g same cs)

  pub with_body-twice : (p : Ptr) (x : B) (cs : List (Cell L B)) → with_body p (Some x) (with_body p None cs) ≡ with_body p (Some x) cs
  with_body-twice p x cs = change-twice p (λ c. cell c.at c.links None) (λ c. cell c.at c.links (Some x)) (λ c. refl) cs

module _ {B : Type 0} where
  pub links_of-seen : (o : Option (Cell Links B)) (la : Links) → links_of o ≡ Some la → (c : Cell Links B) × (o ≡ Some c)
  links_of-seen None la e = absurd (none_some la e)
  links_of-seen (Some c) la e = (c, refl)

module _ {B : Type 0} (p : Ptr) (l : Links) (cs : List (Cell Links B)) {la : Links} (e : links_at cs p ≡ Some la) where
  seen : (c : Cell Links B) × (cell_at cs p ≡ Some c)
  seen = links_of-seen (cell_at cs p) la e

  pub links_at-with_links : (q : Ptr) → links_at (with_links p l cs) q ≡ cond (same_ptr p q) (Some l) (links_at cs q)
  links_at-with_links q =
      (elim (same_ptr p q) as (λ y. same_ptr p q ≡ y → links_at (with_links p l cs) q ≡ cond y (Some l) (links_at cs q)) [
        | true ↦ λ t. subst (λ r. links_at (with_links p l cs) r ≡ Some l) (same_ptr-equal p q t)
            (ap links_of (cell_at-change p (λ c. cell c.at l c.body) (λ c. refl) cs seen.0 seen.1))
        | false ↦ λ n. ap links_of (cell_at-change_other p (λ c. cell c.at l c.body) (λ c. refl) q n cs)
      ]) refl

  -- a reader of links
  module _ {X : Type 0} (f : Option Links → X) where
    pub reader-with_links : (q : Ptr) → f (links_at (with_links p l cs) q) ≡ cond (same_ptr p q) (f (Some l)) (f (links_at cs q))
    reader-with_links q = ap f (links_at-with_links q) ∙ cond-ap f (same_ptr p q) (Some l) (links_at cs q)

    pub reader-with_links_same : f (Some l) ≡ f (Some la) → (q : Ptr) → f (links_at (with_links p l cs) q) ≡ f (links_at cs q)
    reader-with_links_same h q = grind (arith, reader-with_links, cond-same, same_ptr-equal)

there_is : (o : Option Links) → has_links o ≡ true → (l : Links) × (o ≡ Some l)
there_is None e = absurd cc
there_is (Some l) e = (l, refl)

module _ {B : Type 0} where
  pub IsAt-there : (cs : List (Cell Links B)) (p : Ptr) → IsThere cs p → IsAt cs p
  IsAt-there cs p e = there_is (links_at cs p) e

  -- a node, if another one leads on to a third
  pub is_there-leading_on : (cs : List (Cell Links B)) {ds : List (Cell Links B)} (p : Ptr)
      (o : Link) → IsThere cs p → LeadsOn cs p o ds → (q : Ptr) → IsThere cs q → IsThere ds q
  is_there-leading_on cs {ds} p o h k q t =
      let a = IsAt-there cs p h in ap (λ es. is_there es q) (k a.0 a.1) ∙ reader-with_links_same p
      (leading_on o a.0) cs a.1 has_links refl q ∙ t

  pub IsJoined-writes : {cs es ds : List (Cell Links B)} (a b : Link) → IsThere cs a.ptr → IsThere cs b.ptr → LeadsOn cs a.ptr b es
      → LeadsBack es b.ptr a ds → IsJoined cs ds a.ptr b.ptr
  IsJoined-writes {cs} {es} {ds} a b ha hb on back =
      let la = IsAt-there cs a.ptr ha in let lb = IsAt-there es b.ptr (is_there-leading_on cs a.ptr b ha on b.ptr hb) in
      let l : Links = leading_on b la.0 in let m : Links = leading_back a lb.0 in
      let fs : List (Cell Links B) = with_links a.ptr l cs in
      let e₁ = on la.0 la.1 in let e₂ = back lb.0 lb.1 in
      let ef : links_at fs b.ptr ≡ Some lb.0 = sym (ap (λ zs. links_at zs b.ptr) e₁) ∙ lb.1 in
      let made : IsJoined cs (with_links b.ptr m fs) a.ptr b.ptr = record {
        next = λ q. reader-with_links_same b.ptr m fs ef next_of refl q ∙ reader-with_links a.ptr l cs la.1 next_of q;
        prev = λ q. reader-with_links b.ptr m fs ef prev_of q
            ∙ ap (λ r. cond (same_ptr b.ptr q) a.ptr r)
            (reader-with_links_same a.ptr l cs la.1 prev_of refl q);
        link = λ q. reader-with_links_same b.ptr m fs ef link_of refl q ∙ reader-with_links_same a.ptr l cs la.1 link_of refl q;
        there = λ q. reader-with_links_same b.ptr m fs ef has_links refl q ∙ reader-with_links_same a.ptr l cs la.1 has_links refl q;
        count = length-change b.ptr (λ c. cell c.at m c.body) fs ∙ length-change a.ptr (λ c. cell c.at l c.body) cs;
        held = contents-with_links b.ptr m lb.0 fs ef (λ q. content_of-shown_same q m lb.0 (refl, refl))
            ∙ contents-with_links a.ptr l la.0 cs la.1 (λ q. content_of-shown_same q l la.0 (refl, refl));
      } in
      subst (λ zs. IsJoined cs zs a.ptr b.ptr) (sym (e₂ ∙ ap (λ zs. with_links b.ptr m zs) e₁)) made
