-- The former of `Nodes`: how they split into the values of their pairs and the rest, so that a type
-- can refer to itself through them. Nothing here has to be believed: the checker compares it with the
-- struct.
use Rattle.std.specs.Prelude.{◌≡◌, ℕ, Option, Some, None, List, [], ◌∷◌, ◌++◌, map}
use mathlib.Core.Path.{refl, sym, ap, subst, ◌∙◌}
use mathlib.Core.Logic.{◌⊎◌, inl, inr}
use mathlib.Core.HLevel.{×_prop}
use mathlib.Core.Former.{Former, this, const, pair, or, list, via, such}
use Rattle.lhm_ring.specs.Rearranged.{IsRearranged, IsRearranged-prop}
use base.Fraction.{full_share}
use base.Fml.{fsep}
use denote.RattleType.{RattleType}
use denote.RawPtr.{Ptr, lies_at, room_for}
use denote.Memory.{lone}
use denote.Sharing.{beside}
use denote.Struct.Field.{RawPtr-field}
use denote.Struct.Lending.{lent_at}
use denote.Struct.Struct.{Struct}
use denote.Struct.Owning.{shape, to}
use denote.HoleLaws.{Alike}
use mir.Raw.{raw}
use mir.Syntax.{Ty}
use Rattle.std.specs.declared.marker.PhantomData.{PhantomData}
use Rattle.std_alloc.specs.Vec.Recursive.{lies_placed, lent_at_placed}
use Rattle.lhm_ring.specs.Nodes.{Cell, cell, pointers, IsApart, IsApart-prop, AreBlocks, AreBlocks-prop, Chunk, places, land_owns}
use Rattle.lhm_ring.specs.Nodes.{cells_own, cells_lent, body_owns, body_lent, deed_owns, links_address, key_address, value_address}
use Rattle.lhm_ring.specs.declared.nodes.Nodes.{Nodes}
use Rattle.lhm_ring.specs.contracts.nodes.Nodes as C

abbrev split_body : {B : Type 0} → Option B → Unit {0} ⊎ B
split_body None = inl tt
split_body (Some b) = inr b

abbrev join_body : {B : Type 0} → Unit {0} ⊎ B → Option B
join_body (inl u) = None
join_body (inr b) = Some b

pub join_body-split_body : {B : Type 0} (o : Option B) → join_body (split_body o) ≡ o
join_body-split_body None = refl
join_body-split_body (Some b) = refl

pub split_body-join_body : {B : Type 0} (s : Unit {0} ⊎ B) → split_body (join_body s) ≡ s
split_body-join_body (inl u) = refl
split_body-join_body (inr b) = refl

-- what a node holds: nothing, or a key and a value
abbrev pub body_former : Former {0} → Type 0 → Former {0}
body_former g K = via (or (const (Unit {0})) (pair (const K) g)) (λ X. Option (K × g.Of X)) (λ X. split_body) (λ X. join_body)
    (λ X. join_body-split_body) (λ X. split_body-join_body)

abbrev pub cell_former : Former {0} → Type 0 → Type 0 → Former {0}
cell_former g L K = via (pair (const (Ptr × L)) (body_former g K)) (λ X. Cell L (K × g.Of X)) (λ X c. ((c.at, c.links), c.body))
    (λ X v. cell v.0.0 v.0.1 v.1) (λ X c. refl) (λ X v. refl)

-- what nodes have beside their cells
abbrev pub Rest : Type 0
Rest = (ℕ × (List Ptr × List Chunk)) × PhantomData (RawPtr-field).Value

-- what is so of the pointers of the cells and of the rest
abbrev AreLaid : List Ptr → Rest → Type 0
AreLaid ps r = IsApart ps × (AreBlocks ps × (AreBlocks r.0.1.0 × IsRearranged (r.0.1.0 ++ ps) (places r.0.0 r.0.1.1)))

pub AreLaid-prop : (ps : List Ptr) (r : Rest) → IsProp (AreLaid ps r)
AreLaid-prop ps r = ×_prop (IsApart-prop ps)
    (×_prop (AreBlocks-prop ps) (×_prop (AreBlocks-prop r.0.1.0) (IsRearranged-prop (r.0.1.0 ++ ps) (places r.0.0 r.0.1.1))))

module _ (g : Former {0}) (L K : Type 0) where
  abbrev shown : List (cell_former g L K).Shape → List Ptr
  shown = map (λ s. s.0.0)

  pub shown-shape : (X : Type 0) (cs : List (Cell L (K × g.Of X))) → shown (map ((cell_former g L K).shape X) cs) ≡ pointers cs
  shown-shape X [] = refl
  shown-shape X (c ∷ cs) = ap (λ ps. c.at ∷ ps) (shown-shape X cs)

  abbrev laid_cells : Former {0}
  laid_cells = such (pair (list (cell_former g L K)) (const Rest)) (λ X x. AreLaid (pointers x.0) x.1) (λ a. AreLaid (shown a.0) a.1)
      (λ X x. AreLaid-prop (pointers x.0) x.1) (λ a. AreLaid-prop (shown a.0) a.1)
      (λ X x. subst (λ ps. AreLaid ps x.1) (sym (shown-shape X x.0))) (λ X x. subst (λ ps. AreLaid ps x.1) (shown-shape X x.0))

  abbrev pub the_former : Former {0}
  the_former = via laid_cells (λ X. Nodes L K (g.Of X))
      (λ X d. ((d.cells, ((d.node_bytes, (d.unused, d.chunks)), d.marker)), (d.apart, (d.blocks, (d.unused_blocks, d.laid)))))
      (λ X v. record {
        marker = v.0.1.1;
        cells = v.0.0;
        apart = v.1.0;
        blocks = v.1.1.0;
        node_bytes = v.0.1.0.0;
        unused = v.0.1.0.1.0;
        chunks = v.0.1.0.1.1;
        unused_blocks = v.1.1.1.0;
        laid = v.1.1.1.1;
      })
      (λ X d. refl) (λ X v. refl)

module _ (L K R R' : RattleType) (h : R.Denot → R'.Denot) where
  abbrev pub mapped : Nodes L.Denot K.Denot R.Denot → Nodes L.Denot K.Denot R'.Denot
  mapped = (the_former this L.Denot K.Denot).map R.Denot R'.Denot h

  abbrev over_body : Option (K.Denot × R.Denot) → Option (K.Denot × R'.Denot)
  over_body = (body_former this K.Denot).map R.Denot R'.Denot h

  abbrev over_cells : List (Cell L.Denot (K.Denot × R.Denot)) → List (Cell L.Denot (K.Denot × R'.Denot))
  over_cells = map ((cell_former this L.Denot K.Denot).map R.Denot R'.Denot h)

  module _ (a : Alike R R' h) where
    -- R with the memory type m, from that of R to that of R'
    abbrev along : List Ty → RattleType
    along m = record R { mir = m }

    value_owned : (p : Ptr) (x : R.Denot)
        → lies_at R' full_share (value_address L K R' p) (h x) ≡ lies_at R full_share (value_address L K R p) x
    value_owned p x = (λ i. lies_at R' full_share (value_address L K (along (a.mir_same i)) p) (h x))
        ∙ lies_placed R R' h a full_share (value_address L K R p) x

    value_lent : (p : Ptr) (x : R.Denot) → lent_at R' (value_address L K R' p) (h x) ≡ lent_at R (value_address L K R p) x
    value_lent p x = (λ i. lent_at R' (value_address L K (along (a.mir_same i)) p) (h x))
        ∙ lent_at_placed R R' h a (value_address L K R p) x

    body_owned : (p : Ptr) (o : Option (K.Denot × R.Denot)) → body_owns L K R' p (over_body o) ≡ body_owns L K R p o
    body_owned p None = λ i. fsep (room_for (raw (lone K.mir)) (key_address L K R p))
        (room_for (raw (lone (a.mir_same i))) (value_address L K (along (a.mir_same i)) p))
    body_owned p (Some x) = λ i. fsep (lies_at K full_share (key_address L K R p) x.0) (value_owned p x.1 i)

    bodies_lent : (p : Ptr) (o : Option (K.Denot × R.Denot)) → body_lent L K R' p (over_body o) ≡ body_lent L K R p o
    bodies_lent p None = refl
    bodies_lent p (Some x) = λ i. beside (lent_at K (key_address L K R p) x.0) (value_lent p x.1 i)

    cells_owned : (b : ℕ) (us : List Ptr) (ks : List Chunk) (cs : List (Cell L.Denot (K.Denot × R.Denot)))
        → cells_own L K R' (land_owns L K R' b us ks) (over_cells cs) ≡ cells_own L K R (land_owns L K R b us ks) cs
    cells_owned b us ks [] = λ i. land_owns L K (along (a.mir_same i)) b us ks
    cells_owned b us ks (c ∷ cs) = λ i. fsep
        (fsep (lies_at L full_share (links_address L K R c.at) c.links)
        (fsep (body_owned c.at c.body i) (deed_owns L K (along (a.mir_same i)) c.at)))
        (cells_owned b us ks cs i)

    all_lent : (cs : List (Cell L.Denot (K.Denot × R.Denot))) → cells_lent L K R' (over_cells cs) ≡ cells_lent L K R cs
    all_lent [] = refl
    all_lent (c ∷ cs) =
        λ i. beside (beside (lent_at L (links_address L K R c.at) c.links) (bodies_lent c.at c.body i)) (all_lent cs i)

  pub the_places : Alike R R' h → Alike (C.the_row L K R) (C.the_row L K R') mapped
  the_places a = record {
    mir_same = refl;
    own_same = λ d i vs. fsep ((Struct (shape (C.the_type L K R))).own_val (to (C.the_type L K R) d) vs)
        (cells_owned a d.node_bytes d.unused d.chunks d.cells i);
    shr_same = λ d i b o. beside ((Struct (shape (C.the_type L K R))).shr_at (to (C.the_type L K R) d) b o) (all_lent a d.cells i);
  }
