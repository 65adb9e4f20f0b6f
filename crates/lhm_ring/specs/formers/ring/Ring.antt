-- The former of `Ring`: how a ring splits into the values of its pairs and the rest, so that a type
-- can refer to itself through it. The values are in the order of the nodes, which is that of the
-- list. Nothing here has to be believed: the checker compares it with the struct.
use Rattle.std.specs.Prelude.{◌≡◌, ℕ, true, false, cond, Option, Some, None, List, [], ◌∷◌, ◌++◌, map}
use Rattle.std.specs.declared.alloc.Global.{Global}
use mathlib.Core.Path.{refl, sym, ap, subst, ◌∙◌}
use mathlib.Core.Former.{Former, one_more, this, const, pair, list, via}
use lib.ListN.{length-map}
use denote.RattleType.{RattleType}
use denote.RawPtr.{Ptr}
use denote.HoleLaws.{Alike}
use denote.HolePlaces.{struct_places, laid}
use denote.Hole.Fix.{over}
use denote.Model.Placed.{Held as Children, held as children_of, view_places}
use Rattle.lhm_ring.specs.declared.links.{Links.Links, Ends.Ends}
use Rattle.lhm_ring.specs.declared.pointer.{Link.Link, NodePointer.NodePointer}
use Rattle.lhm_ring.specs.declared.ring.Ring.TheInside.{Inside}
use Rattle.lhm_ring.specs.declared.ring.Ring.TheView.{view, invariant}
use Rattle.lhm_ring.specs.contracts.links.Links as L
use Rattle.lhm_ring.specs.contracts.ring.Ring as C
use Rattle.lhm_ring.specs.contracts.ring.Ring.TheInside as I
use Rattle.lhm_ring.specs.Nodes.{Cell, cell, cell_at, links_at, links_of, same_ptr}
use Rattle.lhm_ring.specs.Ring.{State, Held, held, state}
use Rattle.lhm_ring.specs.Links.{IsOwned, content_of, contents, holders, one_of, ring_cells}
use Rattle.lhm_ring.specs.OwnedProp.{IsLaid-prop, IsOwned-prop}
use Rattle.lhm_ring.specs.Placed.{others, unmoved, all_stay}
use Rattle.lhm_ring.specs.SameNodes.{IsOwned-alike}
use Rattle.lhm_ring.specs.formers.nodes.Nodes as nodes

abbrev pub held_former : Former {0} → Type 0 → Former {0}
held_former g K = via (pair (const (Ptr × (ℕ × Option Ptr))) (pair (const K) g)) (λ X. Held (K × g.Of X))
    (λ X t. ((t.at, (t.hash, t.link)), t.pair)) (λ X v. held v.0.0 v.0.1.0 v.0.1.1 v.1) (λ X t. refl) (λ X v. refl)

abbrev pub the_former : Former {0} → Type 0 → Former {0}
the_former g K = via (pair (list (held_former g K)) (const (ℕ × ℕ))) (λ X. State (K × g.Of X)) (λ X s. (s.held, (s.spares, s.nodes)))
    (λ X v. state v.0 v.1.0 v.1.1) (λ X s. refl) (λ X v. refl)

-- the fields, by the nodes' values
abbrev fields : Type 0 → Former {0}
fields K = via (pair (nodes.the_former this Links K) (const (Global × (NodePointer × (ℕ × (Ends × (ℕ × (Link × ℕ)))))))) (Inside K)
    (λ X r. (r.nodes, (r.alloc, (r.chunks, (r.made, (r.ends, (r.len, (r.spare, r.spares))))))))
    (λ X v. record {
      nodes = v.0;
      alloc = v.1.0;
      chunks = v.1.1.0;
      made = v.1.1.1.0;
      ends = v.1.1.1.1.0;
      len = v.1.1.1.1.1.0;
      spare = v.1.1.1.1.1.1.0;
      spares = v.1.1.1.1.1.1.1;
    })
    (λ X r. refl) (λ X v. refl)

module _ (K X : Type 0) where
  abbrev listed_children : List (Held (K × X)) → Children X
  listed_children = children_of (list (held_former this K)) X

  abbrev cell_children : List (Cell Links (K × X)) → Children X
  cell_children = children_of (list (nodes.cell_former this Links K)) X

  -- the nodes hold the values of what they list, in its order
  held-cell : (c : Cell Links (K × X)) (hs : List (Held (K × X))) (cs : List (Cell Links (K × X)))
      → listed_children hs ≡ cell_children cs → (b : Option (K × X))
      → listed_children (one_of (content_of c.at (Some c.links) b) ++ hs) ≡ cell_children (cell c.at c.links b ∷ cs)
  held-cell c hs cs e None = e
  held-cell c hs cs e (Some x) = λ i. (one_more (e i).0, (x.1, (e i).1))

  held-contents : (cs : List (Cell Links (K × X))) → listed_children (contents cs) ≡ cell_children cs
  unfolding contents
  held-contents [] = refl
  held-contents (c ∷ cs) = held-cell c (contents cs) cs (held-contents cs) c.body

  one : (r : Inside K X) → IsProp (invariant K X r)
  one r x y = λ i. record {
    ring = IsOwned-prop (ring_cells r.ends r.nodes.cells) (holders r.nodes.cells) r.spare r.len r.spares x.ring y.ring i;
    laid = IsLaid-prop r.nodes.unused r.nodes.chunks r.chunks.ptr r.made x.laid y.laid i;
  }

module _ (K : Type 0) {X Y : Type 0} (h : X → Y) where
  abbrev over_held : Held (K × X) → Held (K × Y)
  over_held = (held_former this K).map X Y h

  abbrev over_cell : Cell Links (K × X) → Cell Links (K × Y)
  over_cell = (nodes.cell_former this Links K).map X Y h

  abbrev over_body : Option (K × X) → Option (K × Y)
  over_body = (nodes.body_former this K).map X Y h

  abbrev over_content : Option (Held (K × X)) → Option (Held (K × Y))
  over_content None = None
  over_content (Some t) = Some (over_held t)

  content_of-over : (p : Ptr) (o : Option Links) (b : Option (K × X)) → content_of p o (over_body b) ≡ over_content (content_of p o b)
  content_of-over p None b = refl
  content_of-over p (Some l) None = refl
  content_of-over p (Some l) (Some x) = refl

  -- what nodes list
  one_of-over : (o : Option (Held (K × X))) (xs : List (Held (K × X)))
      → one_of (over_content o) ++ map over_held xs ≡ map over_held (one_of o ++ xs)
  one_of-over None xs = refl
  one_of-over (Some x) xs = refl

  contents-over : (cs : List (Cell Links (K × X))) → contents (map over_cell cs) ≡ map over_held (contents cs)
  unfolding contents
  contents-over [] = refl
  contents-over (c ∷ cs) = (λ i. one_of (content_of-over c.at (Some c.links) c.body i) ++ contents-over cs i)
      ∙ one_of-over (content_of c.at (Some c.links) c.body) (contents cs)

  pointers-over : (hs : List (Held (K × X))) → map (λ t. t.at) (map over_held hs) ≡ map (λ t. t.at) hs
  pointers-over [] = refl
  pointers-over (t ∷ hs) = ap (λ ps. t.at ∷ ps) (pointers-over hs)

  holders-over : (cs : List (Cell Links (K × X))) → holders (map over_cell cs) ≡ holders cs
  holders-over cs = ap (map (λ t. t.at)) (contents-over cs) ∙ pointers-over (contents cs)

  -- what one node holds
  abbrev over_found : Option (Cell Links (K × X)) → Option (Cell Links (K × Y))
  over_found None = None
  over_found (Some c) = Some (over_cell c)

  cell_at-over : (cs : List (Cell Links (K × X))) (q : Ptr) → cell_at (map over_cell cs) q ≡ over_found (cell_at cs q)
  unfolding cell_at
  cell_at-over [] q = refl
  cell_at-over (c ∷ cs) q = elim (same_ptr c.at q) as (λ y. cond y (Some (over_cell c)) (cell_at (map over_cell cs) q)
      ≡ over_found (cond y (Some c) (cell_at cs q))) [
        | true ↦ refl
        | false ↦ cell_at-over cs q
      ]

  links_of-over : (o : Option (Cell Links (K × X))) → links_of (over_found o) ≡ links_of o
  links_of-over None = refl
  links_of-over (Some c) = refl

  -- a ring is owned with and without `h`
  module _ (cs : List (Cell Links (K × X))) (ps : List Ptr) (s : Link) (n m : ℕ) where
    same : (q : Ptr) → links_at (map over_cell cs) q ≡ links_at cs q
    same q = ap links_of (cell_at-over cs q) ∙ links_of-over (cell_at cs q)

    IsOwned-over : IsOwned cs ps s n m → IsOwned (map over_cell cs) ps s n m
    IsOwned-over = IsOwned-alike cs (map over_cell cs) same (length-map cs over_cell)

    IsOwned-under : IsOwned (map over_cell cs) ps s n m → IsOwned cs ps s n m
    IsOwned-under = IsOwned-alike (map over_cell cs) cs (λ q. sym (same q)) (sym (length-map cs over_cell))

  abbrev mapped : Inside K X → Inside K Y
  mapped = (fields K).map X Y h

  abbrev Owns : Inside K Y → List Ptr → Type 0
  Owns r ps = IsOwned (ring_cells r.ends r.nodes.cells) ps r.spare r.len r.spares

  kept : (r : Inside K X) → invariant K X r → invariant K Y (mapped r)
  kept r o = record {
    ring = subst (Owns (mapped r)) (sym (holders-over r.nodes.cells))
        (IsOwned-over (ring_cells r.ends r.nodes.cells) (holders r.nodes.cells) r.spare r.len r.spares o.ring);
    laid = o.laid;
  }

  kept_back : (r : Inside K X) → invariant K Y (mapped r) → invariant K X r
  kept_back r o = record {
    ring = IsOwned-under (ring_cells r.ends r.nodes.cells) (holders r.nodes.cells) r.spare r.len r.spares
        (subst (Owns (mapped r)) (holders-over r.nodes.cells) o.ring);
    laid = o.laid;
  }

module _ (K R R' : RattleType) (h : R.Denot → R'.Denot) where
  pub the_places : Alike R R' h → Alike (C.the_row K R) (C.the_row K R') ((the_former this K.Denot).map R.Denot R'.Denot h)
  the_places a = view_places (fields K.Denot) (the_former this K.Denot) (view K.Denot)
      (λ X Y k r i. state (contents-over K.Denot k r.nodes.cells i) r.spares r.made) (λ X r. held-contents K.Denot X r.nodes.cells)
      R.Denot R'.Denot h (C.the_row K R).coded (C.the_row K R').coded (invariant K.Denot R.Denot) (invariant K.Denot R'.Denot)
      (one K.Denot R.Denot) (one K.Denot R'.Denot) (kept K.Denot h) (kept_back K.Denot h)
      (over (I.the_row K R)) (over (I.the_row K R'))
      (struct_places (I.the_type K R) (I.the_type K R')
      (nodes.mapped L.the_row K R R' h, unmoved (others (I.the_type K R).parts)) (mapped K.Denot h) (λ d. refl) refl
      (laid _ _ _ (nodes.the_places L.the_row K R R' h a), all_stay (others (I.the_type K R).parts)))
