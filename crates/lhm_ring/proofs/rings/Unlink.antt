-- `unlink`: a held node comes out, and is the first spare one.
use Rattle.lhm_ring.proofs.Names.{Cell, ChainsTo, Ends, Held, Holds, IsAt, IsHeld, IsJoined, IsOwned, IsRing, Link, Links, List, Nodes}
use Rattle.lhm_ring.proofs.Names.{None, Option, Ptr, Some, State, ap, arith, body_at, cell, cell_at, chaining_to, change, contents}
use Rattle.lhm_ring.proofs.Names.{holders, is_block, length, length-append, length-map, link_of, links_at, links_of, refl, ring_cells}
use Rattle.lhm_ring.proofs.Names.{subst, sym, target, true, with_body, with_links, ◌++◌, ◌+◌, ◌-◌, ◌∙◌, ◌∷◌, ◌≡◌, ◌≤◌}
use Rattle.lhm_ring.proofs.memory.OneNodeChanged.{OnlyAt, OnlyAt-change}
use Rattle.lhm_ring.proofs.rings.Contents.{HeldCut, HeldCut-contents, Holds-content, cell_at-held, content_at-held, contents-changed}
use Rattle.lhm_ring.proofs.rings.Insides.{IsWhole, counts-seen, seen_of}
use Rattle.lhm_ring.proofs.rings.NodeOut.{IsOut, IsOut-changed, IsRing-spared}
use Rattle.lhm_ring.proofs.rings.RingCells.{links_at-ring_cells, ring_cells-change}
use Rattle.lhm_ring.proofs.rings.Writes.{IsAt-there, cell_at-change, change-twice}
use Rattle.lhm_ring.proofs.rings.{Contents.pair-content, Contents.pointers_of, Moves.IsOut-held}
use Rattle.lhm_ring.specs.declared.ring.Ring.TheInside.{Inside}

-- the node at p is joined past, gives its body up, and is the first spare one
module _ {K V : Type 0} (i : Inside K V) (whole : IsWhole i) {v : State (K × V)} (seen_as : seen_of i ≡ v) {p : Ptr}
    (block : is_block p ≡ true) (h : IsHeld v.held p) where
  pub count-held : 1 ≤ i.len
  count-held = let a = (counts-seen i whole seen_as).held in let b = ap length h.is in
      omega (arith, length-append h.before (h.node ∷ h.after))

  module _ {l : Links} (read : links_at i.nodes.cells p ≡ Some l) {f : Ends} (zs : Nodes Links K V)
      (j : IsJoined (ring_cells i.ends i.nodes.cells) (ring_cells f zs.cells) l.prev.ptr l.next.ptr) where
    cut : HeldCut zs.cells h.before h.node h.after
    unfolding contents
    cut = HeldCut-contents zs.cells h.before h.node h.after (j.held ∙ ap (λ z. z.held) seen_as ∙ h.is)

    abbrev here : cell_at zs.cells p ≡ Some cut.node
    here = cell_at-held cut h.at_is zs.apart

    pub Holds-unlinked : Holds zs.cells p
    Holds-unlinked = Holds-content zs.cells p (content_at-held cut h.at_is zs.apart)

    pub pair-unlinked : {x : K × V} → body_at zs.cells p ≡ Some x → x ≡ h.node.pair
    pair-unlinked is = sym (pair-content zs.cells p (content_at-held cut h.at_is zs.apart) is)

    module _ {cs₁ : List (Cell Links (K × V))} (is : cs₁ ≡ with_body p None zs.cells) where
      taken : links_at cs₁ p ≡ Some cut.node.links
      taken = ap (λ ds. links_at ds p) is ∙ ap links_of (cell_at-change p (λ c. cell c.at c.links None) (λ c. refl) zs.cells cut.node here)

      pub IsAt-taken : IsAt cs₁ p
      IsAt-taken = (cut.node.links, taken)

      module _ {cs₂ : List (Cell Links (K × V))} (to : ChainsTo cs₁ p i.spare cs₂) where
        abbrev put : Cell Links (K × V) → Cell Links (K × V)
        put c = cell c.at (chaining_to i.spare cut.node.links) None

        changed : cs₂ ≡ change p put zs.cells
        changed = to cut.node.links taken ∙ ap (with_links p (chaining_to i.spare cut.node.links)) is
            ∙ change-twice p (λ c. cell c.at c.links None) (λ c. cell c.at (chaining_to i.spare cut.node.links) c.body) (λ c. refl) zs.cells

        pub contents-unlinked : contents cs₂ ≡ h.before ++ h.after
        contents-unlinked = contents-changed cut h.at_is zs.apart put refl changed

        left : IsOut (ring_cells f cs₂) p (pointers_of (h.before ++ h.after)) (target i.spare) whole.ring.spare_pointers
        left =
            let beside = IsOut-held i whole seen_as block h read j in
            IsOut-changed beside (subst (λ ds. OnlyAt (ring_cells f zs.cells) ds p)
            (sym (ap (ring_cells f) changed ∙ ring_cells-change f zs.cells p block put))
            (OnlyAt-change p put (λ c. refl) (ring_cells f zs.cells) (IsAt-there (ring_cells f zs.cells) p beside.there.0)))

        pub IsOwned-unlinked : {top : Link} → target top ≡ Some p → IsOwned (ring_cells f cs₂) (holders cs₂) top (i.len - 1) (i.spares + 1)
        IsOwned-unlinked {top} is =
            let link = ap link_of (links_at-ring_cells f cs₂ p block ∙ ap (λ ds. links_at ds p) changed
            ∙ ap links_of (cell_at-change p put (λ c. refl) zs.cells cut.node here)) in
            let long = (counts-seen i whole seen_as).held in let some = count-held in let a = ap length h.is in
            let b = whole.ring.enough_spares in let c = whole.ring.bounded in
            record {
              spare_pointers = p ∷ whole.ring.spare_pointers;
              ring = subst (λ (z : List Ptr × Option Ptr). IsRing (ring_cells f cs₂) z.0 z.1 (p ∷ whole.ring.spare_pointers))
                  (λ x. (pointers_of (sym contents-unlinked x), sym is x)) (IsRing-spared left link);
              held_count = ap (λ hs. length (pointers_of hs)) contents-unlinked
                  ∙ omega (
                    arith,
                    length-map (h.before ++ h.after) (λ (t : Held (K × V)). t.at),
                    length-append h.before h.after,
                    length-append h.before (h.node ∷ h.after),
                  );
              enough_spares = omega arith;
              bounded = omega arith;
            }
