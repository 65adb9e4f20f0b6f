-- What a node holds, as its links and its body say, and what nodes hold, in the order in which they are listed.
use Rattle.lhm_ring.proofs.Names.{AtCell, BeforeCell, Cell, Held, Holds, IsApart, IsAt, Links, List, None, Option, Ptr, Some, [], ap}
use Rattle.lhm_ring.proofs.Names.{append-nil, append_assoc, body_at, body_of, cell, cell_at, change, cleared, cond, content_of, contents}
use Rattle.lhm_ring.proofs.Names.{false, held, link_of, links_at, links_of, map, map-append, null_ptr, one_of, pointers, refl, same_ptr}
use Rattle.lhm_ring.proofs.Names.{subst, sym, true, with_body, ◌++◌, ◌∙◌, ◌∷◌, ◌≡◌}
use Rattle.lhm_ring.proofs.lists.Apart.{IsApart-tail, IsFresh-head, same_ptr-equal, same_ptr-flip, same_ptr-reflexive}
use Rattle.lhm_ring.proofs.lists.{Cuts.same_ptr-fresh, Last.first_from, Options.Some-injective}

module _ {L B : Type 0} where
  -- what lies at a pointer, with one of the nodes in the middle, and a change there
  pub cell_at-middle : (xs : List (Cell L B)) (c : Cell L B) (ys : List (Cell L B)) → IsApart (pointers (xs ++ c ∷ ys)) → (r : Ptr)
      → cell_at (xs ++ c ∷ ys) r ≡ cond (same_ptr c.at r) (Some c) (cell_at (xs ++ ys) r)
  unfolding cell_at
  cell_at-middle [] c ys d r = refl
  cell_at-middle (x ∷ xs) c ys d r =
      (elim (same_ptr x.at r) as (λ y. same_ptr x.at r ≡ y → cond y (Some x) (cell_at (xs ++ c ∷ ys) r)
      ≡ cond (same_ptr c.at r) (Some c) (cond y (Some x) (cell_at (xs ++ ys) r))) [
        | true ↦ λ t.
            let f = same_ptr-fresh (λ (c : Cell L B). c.at) x.at xs c ys (IsFresh-head x.at (pointers (xs ++ c ∷ ys)) d) in
            let other : same_ptr c.at r ≡ false = ap (same_ptr c.at) (sym (same_ptr-equal x.at r t)) ∙ same_ptr-flip x.at c.at f in
            sym (ap (λ y. cond y (Some c) (Some x)) other)
        | false ↦ λ t. cell_at-middle xs c ys (IsApart-tail x.at (pointers (xs ++ c ∷ ys)) d) r
      ]) refl

  change-middle : (f : Cell L B → Cell L B) (xs : List (Cell L B)) (c : Cell L B) (ys : List (Cell L B))
      → IsApart (pointers (xs ++ c ∷ ys)) → change c.at f (xs ++ c ∷ ys) ≡ xs ++ f c ∷ ys
  unfolding change
  change-middle f [] c ys d = ap (λ y. cond y (f c ∷ ys) (c ∷ change c.at f ys)) (same_ptr-reflexive c.at)
  change-middle f (x ∷ xs) c ys d =
      let zs = xs ++ c ∷ ys in
      ap (λ y. cond y (f x ∷ zs) (x ∷ change c.at f zs)) (same_ptr-fresh (λ c. c.at) x.at xs c ys (IsFresh-head x.at (pointers zs) d))
      ∙ ap (λ cs. x ∷ cs) (change-middle f xs c ys (IsApart-tail x.at (pointers zs) d))

module _ {B : Type 0} where
  abbrev pub pointers_of : List (Held B) → List Ptr
  pointers_of = map (λ t. t.at)

  pub pointers_of-append : (xs ys : List (Held B)) → pointers_of (xs ++ ys) ≡ pointers_of xs ++ pointers_of ys
  pointers_of-append xs ys = map-append (λ (t : Held B). t.at) xs ys

  -- what is held at p
  abbrev pub content_at : List (Cell Links B) → Ptr → Option (Held B)
  content_at cs p = content_of p (links_at cs p) (body_at cs p)

  both_there : (p : Ptr) (o : Option Links) (b : Option B) (t : Held B) → content_of p o b ≡ Some t
      → ((l : Links) × (o ≡ Some l)) × ((x : B) × (b ≡ Some x))
  both_there p None b t e = absurd (cc)
  both_there p (Some l) None t e = absurd (cc)
  both_there p (Some l) (Some x) t e = ((l, refl), (x, refl))

  -- what is read at p, where t is held
  module _ (cs : List (Cell Links B)) (p : Ptr) {t : Held B} (c : content_at cs p ≡ Some t) where
    pub IsAt-content : IsAt cs p
    IsAt-content = (both_there p (links_at cs p) (body_at cs p) t c).0

    pub Holds-content : Holds cs p
    Holds-content = (both_there p (links_at cs p) (body_at cs p) t c).1

    pub held-content : {l : Links} {x : B} → links_at cs p ≡ Some l → body_at cs p ≡ Some x → t ≡ held p l.hash (link_of (Some l)) x
    held-content e f = Some-injective t _ (sym c ∙ (λ i. content_of p (e i) (f i)))

    module _ {l : Links} (e : links_at cs p ≡ Some l) where
      pub hash-content : t.hash ≡ l.hash
      hash-content = ap (λ z. z.hash) (held-content e Holds-content.1)

      pub link-content : t.link ≡ link_of (Some l)
      link-content = ap (λ z. z.link) (held-content e Holds-content.1)

    pub pair-content : {x : B} → body_at cs p ≡ Some x → t.pair ≡ x
    pair-content e = ap (λ z. z.pair) (held-content IsAt-content.1 e)

  -- what one node holds
  abbrev pub content : Cell Links B → List (Held B)
  content c = one_of (content_of c.at (Some c.links) c.body)

  content_of-one : (o : Option (Held B)) (t : Held B) → one_of o ≡ t ∷ [] → o ≡ Some t
  content_of-one None t e = absurd cc
  content_of-one (Some u) t e = ap (λ z. Some z) (let same : u ≡ t = cc in same)

  at-content_of : (p : Ptr) (l : Links) (b : Option B) (t : Held B) → content_of p (Some l) b ≡ Some t → p ≡ t.at
  at-content_of p l None t e = absurd cc
  at-content_of p l (Some x) t e = ap (λ z. z.at) (Some-injective (held p l.hash (link_of (Some l)) x) t e)

  pub contents-append : (xs ys : List (Cell Links B)) → contents (xs ++ ys) ≡ contents xs ++ contents ys
  unfolding contents
  contents-append [] ys = refl
  contents-append (x ∷ xs) ys =
      ap (λ zs. content x ++ zs) (contents-append xs ys) ∙ sym (append_assoc (content x) (contents xs) (contents ys))

  -- ws is what one of some nodes holds
  pub contents-middle : (xs : List (Cell Links B)) (c : Cell Links B) (ys : List (Cell Links B)) {ws : List (Held B)} → content c ≡ ws
      → contents (xs ++ c ∷ ys) ≡ contents xs ++ (ws ++ contents ys)
  unfolding contents
  contents-middle xs c ys e = contents-append xs (c ∷ ys) ∙ ap (λ zs. contents xs ++ (zs ++ contents ys)) e

  -- nodes, cut at the one that holds t
  pub record HeldCut (cs : List (Cell Links B)) (us : List (Held B)) (t : Held B) (vs : List (Held B)) : Type 0 where
    pub before : List (Cell Links B)
    pub node : Cell Links B
    pub after : List (Cell Links B)
    pub is : cs ≡ before ++ node ∷ after
    pub before_is : contents before ≡ us
    pub here : content node ≡ t ∷ []
    pub after_is : contents after ≡ vs

  abbrev HasCuts : List (Cell Links B) → Type 0
  HasCuts cs = (us : List (Held B)) (t : Held B) (vs : List (Held B)) → contents cs ≡ us ++ t ∷ vs → HeldCut cs us t vs

  pub HeldCut-contents : (cs : List (Cell Links B)) → HasCuts cs
  unfolding contents
  HeldCut-contents [] [] t vs e = absurd cc
  HeldCut-contents [] (u ∷ us) t vs e = absurd cc
  HeldCut-contents (c ∷ cs) us t vs e = by (HeldCut-contents cs) (content_of c.at (Some c.links) c.body) refl
    where
      later : HasCuts cs → (k ws : List (Held B)) → content c ≡ k → contents cs ≡ ws ++ t ∷ vs → HeldCut (c ∷ cs) (k ++ ws) t vs
      later rest k ws h e = let on = rest ws t vs e in record {
        before = c ∷ on.before;
        node = on.node;
        after = on.after;
        is = ap (λ ds. c ∷ ds) on.is;
        before_is = λ i. h i ++ on.before_is i;
        here = on.here;
        after_is = on.after_is;
      }

      first : HasCuts cs → (us : List (Held B)) (x : Held B) → content c ≡ x ∷ [] → x ∷ contents cs ≡ us ++ t ∷ vs
          → HeldCut (c ∷ cs) us t vs
      first rest [] x h e = let same : x ≡ t = cc in let others : contents cs ≡ vs = cc in
          record { before = []; node = c; after = cs; is = refl; before_is = refl; here = h ∙ ap (λ z. z ∷ []) same; after_is = others }
      first rest (u ∷ us) x h e = let same : x ≡ u = cc in let others : contents cs ≡ us ++ t ∷ vs = cc in
          later rest (u ∷ []) us (h ∙ ap (λ z. z ∷ []) same) others

      by : HasCuts cs → (o : Option (Held B)) → content_of c.at (Some c.links) c.body ≡ o → HeldCut (c ∷ cs) us t vs
      by rest None h = later rest [] us (ap one_of h) (sym (ap (λ o. one_of o ++ contents cs) h) ∙ e)
      by rest (Some x) h = first rest us x (ap one_of h) (sym (ap (λ o. one_of o ++ contents cs) h) ∙ e)

  -- there
  module _ {cs : List (Cell Links B)} {us : List (Held B)} {t : Held B} {vs : List (Held B)} (k : HeldCut cs us t vs) where
    pub node_at : k.node.at ≡ t.at
    node_at = at-content_of k.node.at k.node.links k.node.body t (content_of-one _ t k.here)

    -- the others
    pub contents-others : contents (k.before ++ k.after) ≡ us ++ vs
    contents-others = contents-append k.before k.after ∙ (λ i. k.before_is i ++ k.after_is i)

  module _ {cs : List (Cell Links B)} {us : List (Held B)} {t : Held B} {vs : List (Held B)} (k : HeldCut cs us t vs) {p : Ptr}
      (at : t.at ≡ p) where
    module _ (d : IsApart (pointers cs)) where
      own : IsApart (pointers (k.before ++ k.node ∷ k.after))
      own = subst (λ zs. IsApart (pointers zs)) k.is d

      pub cell_at-held : cell_at cs p ≡ Some k.node
      cell_at-held = (λ i. cell_at (k.is i) (sym (node_at k ∙ at) i)) ∙ cell_at-middle k.before k.node k.after own k.node.at
          ∙ ap (λ y. cond y (Some k.node) (cell_at (k.before ++ k.after) k.node.at)) (same_ptr-reflexive k.node.at)

      pub content_at-held : content_at cs p ≡ Some t
      content_at-held =
          ap (λ o. content_of p (links_of o) (body_of o)) cell_at-held
          ∙ ap (λ q. content_of q (Some k.node.links) k.node.body) (sym (node_at k ∙ at)) ∙ content_of-one _ t k.here

      -- the node is changed, and holds ws
      pub contents-changed : (f : Cell Links B → Cell Links B) {ws : List (Held B)} → content (f k.node) ≡ ws
          → {ds : List (Cell Links B)} → ds ≡ change p f cs → contents ds ≡ us ++ (ws ++ vs)
      contents-changed f {ws} h is =
          ap contents is ∙ (λ i. contents (change (sym (node_at k ∙ at) i) f (k.is i)))
          ∙ ap contents (change-middle f k.before k.node k.after own) ∙ contents-middle k.before (f k.node) k.after h
          ∙ (λ i. k.before_is i ++ (ws ++ k.after_is i))

      pub contents-emptied : {ds : List (Cell Links B)} → ds ≡ with_body p None cs → contents ds ≡ us ++ vs
      contents-emptied = contents-changed (λ c. cell c.at c.links None) refl

    -- it is listed before what is held at q, or last
    pub contents-relisted : {ds : List (Cell Links B)} {q : Ptr}
        → AtCell cs p (λ xs c ys. BeforeCell (xs ++ ys) q (λ us vs. ds ≡ us ++ c ∷ vs))
        → (ws zs : List (Held B)) → us ++ vs ≡ ws ++ zs → q ≡ first_from null_ptr (pointers_of zs) → contents ds ≡ ws ++ t ∷ zs
    unfolding contents
    contents-relisted moved ws [] cut first =
        let cs = k.before ++ k.after in
        ap contents (moved k.before k.node k.after k.is (node_at k ∙ at) cs [] (sym (append-nil cs)) first)
        ∙ contents-middle cs k.node [] k.here ∙ ap (λ hs. hs ++ t ∷ []) (contents-others k ∙ cut ∙ append-nil ws)
    contents-relisted moved ws (z ∷ zs) cut first =
        let m = HeldCut-contents (k.before ++ k.after) ws z zs (contents-others k ∙ cut) in
        ap contents (moved k.before k.node k.after k.is (node_at k ∙ at) m.before (m.node ∷ m.after) m.is (first ∙ sym (node_at m)))
        ∙ contents-middle m.before k.node (m.node ∷ m.after) k.here
        ∙ (λ i. m.before_is i ++ t ∷ (contents-middle [] m.node m.after m.here ∙ ap (λ hs. z ∷ hs) m.after_is) i)

-- nodes with nothing in them hold nothing
pub contents-cleared : {B : Type 0} (cs : List (Cell Links B)) → contents (cleared cs) ≡ []
unfolding contents
contents-cleared [] = refl
contents-cleared (c ∷ cs) = contents-cleared cs
