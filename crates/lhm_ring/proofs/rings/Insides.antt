-- What the fields of a ring say of its counts, and of what its nodes hold.
use Rattle.lhm_ring.proofs.Names.{AreBlocks, AtHeld, Cell, ChangesOnly, Held, Holds, IsApart, IsAt, IsHeld, IsLaid, IsOwned, Links, List}
use Rattle.lhm_ring.proofs.Names.{Option, Ptr, Some, State, [], ap, arith, body_at, body_of, cell, change, change_at, content_of, contents}
use Rattle.lhm_ring.proofs.Names.{held, holders, is_block, length, length-map, link_of, links_at, min, one_of, ring_cells, state, subst}
use Rattle.lhm_ring.proofs.Names.{sym, true, with_body, ℕ, ◌++◌, ◌+◌, ◌^◌, ◌∙◌, ◌∷◌, ◌≡◌, ◌≤◌}
use Rattle.lhm_ring.proofs.rings.ContentChange.{ChangesOnly-apart, IsOwned-with_body, pointers_of-changed}
use Rattle.lhm_ring.proofs.rings.Contents.{HeldCut, HeldCut-contents, Holds-content, IsAt-content, cell_at-held, content, content_at}
use Rattle.lhm_ring.proofs.rings.Contents.{content_at-held, contents-changed, hash-content, link-content, node_at, pair-content}
use Rattle.lhm_ring.proofs.rings.Contents.{pointers_of, pointers_of-append}
use Rattle.lhm_ring.proofs.rings.Holders.{AllByRecursion-holders, IsApart-holders}
use Rattle.lhm_ring.proofs.{lists.Splits.SplitAround, memory.Places.length-made, rings.Stacking.IsOwned-raised}
use Rattle.lhm_ring.specs.declared.ring.Ring.TheInside.{Inside}

-- the invariant of a ring, and what callers see of it
abbrev pub IsWhole : {K V : Type 0} → Inside K V → Type 0
IsWhole i = record {
  ring : IsOwned (ring_cells i.ends i.nodes.cells) (holders i.nodes.cells) i.spare i.len i.spares;
  laid : IsLaid i.nodes.unused i.nodes.chunks i.chunks.ptr i.made;
}

abbrev pub seen_of : {K V : Type 0} → Inside K V → State (K × V)
seen_of i = state (contents i.nodes.cells) i.spares i.made

module _ {K V : Type 0} (i : Inside K V) (ok : IsWhole i) where
  pub length-cells : length i.nodes.cells ≡ i.made
  length-cells =
      length-made i.nodes.cells i.nodes.unused i.nodes.node_bytes i.nodes.chunks i.nodes.laid ok.laid.none_unused ∙ sym ok.laid.all_made

  pub counts-within : i.len + i.spares ≤ min i.made (2 ^ 59)
  counts-within = grind (arith, length-cells)

  pub IsWhole-raised : (count : ℕ) → i.len + i.spares + count ≤ min i.made (2 ^ 59) → IsWhole (record i { spares = i.spares + count })
  IsWhole-raised count h = grind (arith, length-cells, IsOwned-raised)

  -- the counts and what is held, as callers see them
  module _ {v : State (K × V)} (w : seen_of i ≡ v) where
    held_is : contents i.nodes.cells ≡ v.held
    held_is = ap (λ z. z.held) w

    pub record SeenCounts : Type 0 where
      pub held : i.len ≡ length v.held
      pub spares : i.spares ≡ v.spares
      pub nodes : i.made ≡ v.nodes

    pub counts-seen : SeenCounts
    counts-seen = record {
      held = sym ok.ring.held_count ∙ ap (λ hs. length (pointers_of hs)) held_is ∙ length-map v.held (λ (t : Held (K × V)). t.at);
      spares = ap (λ z. z.spares) w;
      nodes = ap (λ z. z.nodes) w;
    }

    pub length-bounded : length v.held + v.spares ≤ 2 ^ 59
    length-bounded = let a = counts-seen in let b = ok.ring.bounded in omega arith

    pub length-within : length v.held + v.spares ≤ v.nodes
    length-within = let a = counts-seen in let b = counts-within in grind arith

    -- where it lies
    pub IsApart-held : IsApart (pointers_of v.held)
    IsApart-held = subst (λ hs. IsApart (pointers_of hs)) held_is (IsApart-holders i.nodes.cells i.nodes.apart)

    pub AreBlocks-held : AreBlocks (pointers_of v.held)
    AreBlocks-held = subst (λ hs. AreBlocks (pointers_of hs)) held_is
        (AllByRecursion-holders (λ p. is_block p ≡ true) i.nodes.cells i.nodes.blocks)

    pub ChangesOnly-held : (p : Ptr) → ChangesOnly v.held p
    ChangesOnly-held p = ChangesOnly-apart IsApart-held p

    -- a triple that is held, and its node
    module _ {p : Ptr} (h : IsHeld v.held p) where
      abbrev pub NodeAt-held : SplitAround (holders i.nodes.cells) p
      NodeAt-held = record {
        before = pointers_of h.before;
        after = pointers_of h.after;
        is = ap pointers_of (ap (λ z. z.held) w ∙ h.is) ∙ pointers_of-append h.before (h.node ∷ h.after)
            ∙ ap (λ q. pointers_of h.before ++ q ∷ pointers_of h.after) h.at_is;
      }

      pub cut-inside : HeldCut i.nodes.cells h.before h.node h.after
      cut-inside = HeldCut-contents i.nodes.cells h.before h.node h.after (held_is ∙ h.is)

      pub content_at-inside : content_at i.nodes.cells p ≡ Some h.node
      content_at-inside = content_at-held cut-inside h.at_is i.nodes.apart

      pub IsAt-inside : IsAt i.nodes.cells p
      IsAt-inside = IsAt-content i.nodes.cells p content_at-inside

      pub Holds-inside : Holds i.nodes.cells p
      Holds-inside = Holds-content i.nodes.cells p content_at-inside

      -- the node there is changed, and holds u there
      module _ (f : Cell Links (K × V) → Cell Links (K × V)) {u : Held (K × V)} (makes : content (f cut-inside.node) ≡ u ∷ [])
          {ds : List (Cell Links (K × V))} (is : ds ≡ change p f i.nodes.cells) where
        pub contents-inside : contents ds ≡ h.before ++ u ∷ h.after
        contents-inside = contents-changed cut-inside h.at_is i.nodes.apart f makes is

        pub holders-inside : u.at ≡ p → holders ds ≡ holders i.nodes.cells
        holders-inside at = ap pointers_of contents-inside ∙ pointers_of-changed h.before h.node u h.after (at ∙ sym h.at_is)
            ∙ sym (ap pointers_of (held_is ∙ h.is))

      -- another pair y may be written there, which makes g t of the triple
      module _ {x : K × V} (e : body_at i.nodes.cells p ≡ Some x) (y : K × V) (g : Held (K × V) → Held (K × V))
          (makes : (q : Ptr) (n : ℕ) (l : Option Ptr) → g (held q n l x) ≡ held q n l y) {ds : List (Cell Links (K × V))}
          (is : ds ≡ with_body p (Some y) i.nodes.cells) where
        abbrev put : Cell Links (K × V) → Cell Links (K × V)
        put d = cell d.at d.links (Some y)

        body : cut-inside.node.body ≡ Some x
        body = sym (ap body_of (cell_at-held cut-inside h.at_is i.nodes.apart)) ∙ e

        was : h.node ≡ held cut-inside.node.at cut-inside.node.links.hash (link_of (Some cut-inside.node.links)) x
        was = let c = cut-inside.node in
            let here = sym cut-inside.here ∙ ap (λ o. one_of (content_of c.at (Some c.links) o)) body in cc

        made : content (put cut-inside.node) ≡ g h.node ∷ []
        made = let c = cut-inside.node in ap (λ t. t ∷ []) (sym (ap g was ∙ makes c.at c.links.hash (link_of (Some c.links))))

        pub IsOwned-written : IsOwned (ring_cells i.ends ds) (holders ds) i.spare i.len i.spares
        IsOwned-written =
            subst (λ qs. IsOwned (ring_cells i.ends ds) qs i.spare i.len i.spares)
            (sym (holders-inside put made is (ap (λ t. t.at) (ap g was ∙ makes _ _ _) ∙ node_at cut-inside ∙ h.at_is)))
            (IsOwned-with_body i.ends i.nodes.cells ok.ring p (Some y) is)

        pub contents-written : contents ds ≡ h.before ++ g h.node ∷ h.after
        contents-written = contents-inside put made is

        pub contents-set : contents ds ≡ change_at p g v.held
        contents-set = contents-written ∙ sym (ChangesOnly-held p h.before h.node h.after h.is h.at_is g)

    -- what is read at each place where one is
    module _ (p : Ptr) where
      abbrev HeldAt : (Held (K × V) → Type 0) → Type 0
      HeldAt P = AtHeld v.held p (λ xs t ys. P t)

      there : AtHeld v.held p (λ xs t ys. content_at i.nodes.cells p ≡ Some t)
      there xs t ys e at = content_at-inside (record { before = xs; node = t; after = ys; is = e; at_is = at })

      pub hash-inside : {l : Links} → links_at i.nodes.cells p ≡ Some l → HeldAt (λ t. l.hash ≡ t.hash)
      hash-inside e xs t ys h at = sym (hash-content i.nodes.cells p (there xs t ys h at) e)

      pub link-inside : {l : Links} → links_at i.nodes.cells p ≡ Some l → HeldAt (λ t. link_of (Some l) ≡ t.link)
      link-inside e xs t ys h at = sym (link-content i.nodes.cells p (there xs t ys h at) e)

      pub pair-inside : {x : K × V} → body_at i.nodes.cells p ≡ Some x → HeldAt (λ t. x ≡ t.pair)
      pair-inside e xs t ys h at = sym (pair-content i.nodes.cells p (there xs t ys h at) e)
