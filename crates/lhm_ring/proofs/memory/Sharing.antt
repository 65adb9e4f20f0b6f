-- A `&` to the nodes is made if one to their links, keys and values is. Assumes `Logic`.
use Rattle.lhm_ring.proofs.Names.{List, None, Option, Some, [], ◌++◌, ◌∷◌, Cell, body_lent, body_owns, cell_lent, cell_owns, cells_lent}
use Rattle.lhm_ring.proofs.Names.{cells_own, deed_owns, key_address, links_address, value_address, Nodes, Fml, Incl, Incl-trans, Lft, fbor}
use Rattle.lhm_ring.proofs.Names.{fsep, full_share, ent, sep, meet_⊑_left, meet_⊑_right, copy_shared, RattleType, RowLaws, Ptr, RawPtr}
use Rattle.lhm_ring.proofs.Names.{lies_at, Shares-less, ShrLaws, beside_shr_laws, nothing_shr_laws, Law, Lends, Lends-both, Lends-first}
use Rattle.lhm_ring.proofs.Names.{Lends-lies, Lends-nothing, lent_at, lent_at_shr_laws, of_Lends, Ura, !, await, done, later, now, qed}
use Rattle.lhm_ring.proofs.Names.{raw, split, updating, use1, use2, ‵, ◌$◌, ◌⊛◌, Logic, lfts, sem}
use denote.{Param.Laws.Laws, Struct.Laws.field_copy}
use denote.Struct.Owning as owning
use Rattle.std.specs.contracts.marker.PhantomData as marker
use Rattle.lhm_ring.specs.contracts.nodes.Nodes as C

module _ (L K V : RattleType) (LL : RowLaws L) (LK : RowLaws K) (LV : RowLaws V) where
  body_lent_laws : (p : Ptr) (x : Option (K.Denot × V.Denot)) → ShrLaws (body_lent L K V p x)
  body_lent_laws p None = nothing_shr_laws
  body_lent_laws p (Some x) = beside_shr_laws _ _ (lent_at_shr_laws K LK (key_address L K V p) x.0)
      (lent_at_shr_laws V LV (value_address L K V p) x.1)

  pub cells_lent_laws : (cs : List (Cell L.Denot (K.Denot × V.Denot))) → ShrLaws (cells_lent L K V cs)
  cells_lent_laws [] = nothing_shr_laws
  cells_lent_laws (c ∷ cs) = beside_shr_laws _ _
      (beside_shr_laws _ _ (lent_at_shr_laws L LL (links_address L K V c.at) c.links)
      (body_lent_laws c.at c.body)) (cells_lent_laws cs)

-- what is left of each node, and `others` beside it
abbrev pub parts_own : {N : Type 0} → (N → Fml) → Fml → List N → Fml
parts_own f others [] = others
parts_own f others (c ∷ cs) = fsep (f c) (parts_own f others cs)

module _ {M : Type 1} {𝓤 : Ura M} (𝓛 : Logic 𝓤) (l : Lft) where
  -- what is lent shows less
  pub Lends-less : (P : Fml) (Q S : Lft → Fml) → Lends 𝓛 P Q l → ((κ : Lft) → ent 𝓤 (sem 𝓛 (Q κ)) (sem 𝓛 (S κ))) → Lends 𝓛 P S l
  Lends-less P Q S h less κ ts inc sp = qed 𝓛 (‵ (fbor κ P) ∷ raw (lfts 𝓛 ts) ∷ []) {P = 𝓛.H.⇛ (sep 𝓤 (sem 𝓛 (S κ)) (lfts 𝓛 ts))} (
      updating ! $ use2 𝓛 (later (‵ (Q κ) ⊛ raw (lfts 𝓛 ts))) (h κ ts inc sp) $ await ! tt $ split ! $ use1 𝓛 (‵ (S κ)) (less κ) $ now ! $
      done !)

  module _ (L K V : RattleType) where
    pub Lends-parts : (f : Cell L.Denot (K.Denot × V.Denot) → Fml)
        → ((c : Cell L.Denot (K.Denot × V.Denot)) → Lends 𝓛 (f c) (cell_lent L K V c) l)
        → (Z : Fml) (cs : List (Cell L.Denot (K.Denot × V.Denot))) → Lends 𝓛 (parts_own f Z cs) (cells_lent L K V cs) l
    Lends-parts f h Z [] = Lends-nothing 𝓛 Z l
    Lends-parts f h Z (c ∷ cs) = Lends-both 𝓛 (f c) (parts_own f Z cs) (cell_lent L K V c)
        (cells_lent L K V cs) l (h c) (Lends-parts f h Z cs)

module _ {M : Type 1} {𝓤 : Ura M} (𝓛 : Logic 𝓤) {l : Lft} {L K V : RattleType} (LL : Laws L)
    (LK : Laws K) (LV : Laws V) (inc : Incl l L.lives × Incl l K.lives × Incl l V.lives) where
  Lends-body : (p : Ptr) (x : Option (K.Denot × V.Denot)) → Lends 𝓛 (body_owns L K V p x) (body_lent L K V p x) l
  Lends-body p None = Lends-nothing 𝓛 (body_owns L K V p None) l
  Lends-body p (Some x) = Lends-both 𝓛 (lies_at K full_share (key_address L K V p) x.0)
      (lies_at V full_share (value_address L K V p) x.1) (lent_at K (key_address L K V p) x.0)
      (lent_at V (value_address L K V p) x.1) l
      (Lends-lies 𝓛 K l (key_address L K V p) x.0 (Shares-less 𝓛 K K.lives l inc.1 (LK.shares 𝓛)
      x.0)) (Lends-lies 𝓛 V l (value_address L K V p) x.1
      (Shares-less 𝓛 V V.lives l inc.2 (LV.shares 𝓛) x.1))

  Lends-cell : (c : Cell L.Denot (K.Denot × V.Denot)) → Lends 𝓛 (cell_owns L K V c) (cell_lent L K V c) l
  Lends-cell c =
      Lends-both 𝓛 (lies_at L full_share (links_address L K V c.at) c.links) (fsep (body_owns L K V c.at c.body) (deed_owns L K V c.at))
      (lent_at L (links_address L K V c.at) c.links) (body_lent L K V c.at c.body) l
      (Lends-lies 𝓛 L l (links_address L K V c.at) c.links (Shares-less 𝓛 L L.lives l inc.0 (LL.shares 𝓛) c.links))
      (Lends-first 𝓛 (body_owns L K V c.at c.body) (deed_owns L K V c.at) (body_lent L K V c.at c.body) l (Lends-body c.at c.body))

  pub Lends-cells : (Z : Fml) (cs : List (Cell L.Denot (K.Denot × V.Denot))) → Lends 𝓛 (cells_own L K V Z cs) (cells_lent L K V cs) l
  Lends-cells = Lends-parts 𝓛 l L K V (cell_owns L K V) Lends-cell

-- nodes that own `left`, as a type that is shared as nodes of R, A and B are
module _ (R A B : RattleType) (left : Nodes R.Denot A.Denot B.Denot → Fml) where
  abbrev pub Thin : owning.Owning
  Thin = owning.lending (C.struct R A B) (C.the_codes R.Denot A.Denot B.Denot R.coded A.coded
      B.coded (marker.the_row RawPtr).coded) left (C.the_lent R A B)

  pub Law-thin : Laws R → Laws A → Laws B
      → ((M : Type 1) (𝓤 : Ura M) (𝓛 : Logic 𝓤) (l : Lft) → Incl l R.lives → Incl l A.lives → Incl l B.lives
      → (n : Nodes R.Denot A.Denot B.Denot) → Lends 𝓛 (left n) (cells_lent R A B n.cells) l) → Law (owning.row Thin)
  Law-thin LR LA LB lends =
      let T = A.lives ++ (B.lives ++ []) in let inside = meet_⊑_left (R.lives ++ T) _ in
      let behind = Incl-trans inside (meet_⊑_right R.lives T) in
      of_Lends (C.struct R A B) (C.the_codes R.Denot A.Denot B.Denot R.coded A.coded B.coded
      (marker.the_row RawPtr).coded) left (C.the_lent R A B)
      (λ n p. cells_lent_laws R A B LR.shr_laws LA.shr_laws LB.shr_laws n.cells)
      (copy_shared (marker.the_field RawPtr) (field_copy (marker.the_type RawPtr) tt), tt)
      (λ M 𝓤 𝓛 n p. lends M 𝓤 𝓛 (owning.row Thin).lives (Incl-trans inside (meet_⊑_left R.lives T))
      (Incl-trans behind (meet_⊑_left A.lives (B.lives ++ [])))
      (Incl-trans behind (Incl-trans (meet_⊑_right A.lives (B.lives ++ [])) (meet_⊑_left B.lives []))) n)
