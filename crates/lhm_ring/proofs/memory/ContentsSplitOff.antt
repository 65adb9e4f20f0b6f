-- What nodes hold is cut out of them, and they are whole again with nothing in them. Assumes
-- `Logic`.
--     contents_cut, contents_glue      all bodies are taken from the nodes, and whatever comes back leaves
--     uninitialised memory
--     BareRow      the nodes without bodies, as a type: what a `&` to nodes of holes shows is what
--     a `&` to it shows
use Rattle.lhm_ring.proofs.Names.{List, None, Option, Some, [], refl, ℕ, ◌+◌, ◌∷◌, Bodies, bodies, bodies_of, cleared, firsts, seconds}
use Rattle.lhm_ring.proofs.Names.{Cell, body_owns, cell, cell_lent, cells_lent, deed_owns, land_owns, links_address, cleared_nodes, Nodes}
use Rattle.lhm_ring.proofs.Names.{as_raw, Fml, GName, Incl, Lft, fat, fex, ffalse, froom, fsep, fseps, full_share, emp, ent, id⊢, never_e}
use Rattle.lhm_ring.proofs.Names.{sep, Array, each, u8, mem, part_at, part_of, layout, RattleType, Ptr, block_ptr, lies_at, null_ptr}
use Rattle.lhm_ring.proofs.Names.{NamedLft, makes_shadow, Shares-less, nothing as empty, Lends, Lends-first, Lends-lies, lent_at, Struct}
use Rattle.lhm_ring.proofs.Names.{ty_array, ty_int, w8, Val, vnil, vstruct, Ura, !, by, done, drop, feq_i, fjoin, fjoin3, fpack, fpick}
use Rattle.lhm_ring.proofs.Names.{fsplit, fsplit3, keep, move, qed, raw, split, use1, use2, ‵, ◌$◌, ◌∵◌, ◌⊛◌, Logic, sem, Body as Borrowed}
use Rattle.lhm_ring.proofs.Names.{SemTy}
use Rattle.lhm_ring.proofs.memory.NodeFields.{Cells, Land, Marker, Nr, One, RK, RL, RV, Three, body_uninit, ko, marker, vo}
use Rattle.lhm_ring.proofs.memory.PartsTaken.{Entails, parts_cut, parts_glue, ◌∗◌}
use Rattle.lhm_ring.proofs.memory.Sharing.{Law-thin, Lends-less, Lends-parts, Thin, parts_own}
use denote.{Array.shape, Memory.cell_at, Param.Laws.Laws, Shares.Shares}
use denote.Struct.Owning as owning
use Rattle.lhm_ring.specs.contracts.value_loan.Hole as H-type
use Rattle.lhm_ring.specs.contracts.nodes.Nodes as C
use Rattle.lhm_ring.specs.contracts.content_loan.ContentLoan as S-type

module _ (R S W : RattleType) where
  abbrev Body : Type 0
  Body = Option (S.Denot × W.Denot)

  abbrev Node : Type 0
  Node = Cell R.Denot (S.Denot × W.Denot)

  abbrev links_own : Node → Fml
  links_own c = lies_at R full_share (links_address R S W c.at) c.links

  abbrev links_lent : Node → Lft → Fml
  links_lent c = lent_at R (links_address R S W c.at) c.links

  abbrev stem : Node → Fml
  stem c = links_own c ∗ deed_owns R S W c.at

  -- the nodes without their bodies, and `others` beside them
  abbrev pub stems : Fml → List Node → Fml
  stems others = parts_own stem others

  abbrev pub HS : RattleType
  HS = H-type.the_row S

  abbrev pub HW : RattleType
  HW = H-type.the_row W

  module _ {M : Type 1} {𝓤 : Ura M} (𝓛 : Logic 𝓤) where
    -- what is lent of a stem shows what a node of holes does
    stem_seen : (κ : Lft) (p : Ptr) (l : R.Denot) (b : Body)
        → Entails 𝓛 (lent_at R (links_address R S W p) l κ) (cell_lent R HS HW (cell p l b) κ)
    stem_seen κ p l None = qed 𝓛 (‵ (lent_at R (links_address R S W p) l κ) ∷ []) ∵ empty ! $ move ! (1 ∷ 0 ∷ []) $ fjoin ! $ done !
    stem_seen κ null_ptr l (Some x) = qed 𝓛 (‵ (lent_at R (links_address R S W null_ptr) l κ) ∷ [])
        ∵ fsplit ! $ keep ! (0 ∷ []) $ by ! (never_e 𝓤 _)
    stem_seen κ (block_ptr b o) l (Some x) = qed 𝓛 (‵ (lent_at R (links_address R S W (block_ptr b o)) l κ) ∷ []) ∵
        empty ! $ empty ! $ fjoin ! $ empty ! $ empty ! $ fjoin ! $ fjoin ! $ move ! (1 ∷ 0 ∷ []) $ fjoin ! $ done !

    Lends-stems : (LR : Laws R) (l : Lft) → Incl l R.lives → (Z : Fml) (cs : List Node) → Lends 𝓛 (stems Z cs) (cells_lent R HS HW cs) l
    Lends-stems LR l incR = Lends-parts 𝓛 l R HS HW stem (λ c. Lends-less 𝓛 l (stem c) (links_lent c) (cell_lent R HS HW c)
        (Lends-first 𝓛 (links_own c) (deed_owns R S W c.at) (links_lent c) l
        (Lends-lies 𝓛 R l (links_address R S W c.at) c.links (Shares-less 𝓛 R R.lives l incR (LR.shares 𝓛) c.links)))
        (λ κ. stem_seen κ c.at c.links c.body))

  -- the nodes without bodies, as a type
  abbrev bare : Nodes R.Denot S.Denot W.Denot → Fml
  bare n = stems (land_owns R S W n.node_bytes n.unused n.chunks) n.cells

  abbrev pub BareRow : RattleType
  BareRow = owning.row (Thin R HS HW bare)

  abbrev pub Holed : RattleType
  Holed = C.the_row R HS HW

  pub Shares-bare : {M : Type 1} {𝓤 : Ura M} (𝓛 : Logic 𝓤) (LR : Laws R) (LS : Laws HS) (LW : Laws HW) → Shares 𝓛 BareRow BareRow.lives
  Shares-bare {M} {𝓤} 𝓛 LR LS LW = (Law-thin R HS HW bare LR LS LW
      (λ M 𝓤 𝓛 l inR _ _ n. Lends-stems 𝓛 LR l inR (land_owns R S W n.node_bytes n.unused n.chunks) n.cells)).shares M 𝓤 𝓛

module _ (E : Three) {M : Type 1} {𝓤 : Ura M} (𝓛 : Logic 𝓤) where
  abbrev Content : Type 0
  Content = Option (E.key.Denot × E.value.Denot)

  abbrev body : Ptr → Content → Fml
  body = body_owns (RL E) (RK E) (RV E)

  abbrev run : List (Cell E.links.Denot (E.key.Denot × E.value.Denot)) → List Content → Fml
  run cs ws = bodies (RL E) (RK E) (RV E) (firsts (bodies_of cs)) ws

  abbrev Stems : Fml → List (Cell E.links.Denot (E.key.Denot × E.value.Denot)) → Fml
  Stems = stems (RL E) (RK E) (RV E)

  pub contents_cut : (Z : Fml) (cs : List (Node (RL E) (RK E) (RV E)))
      → Entails 𝓛 (Cells E Z cs) (run cs (seconds (bodies_of cs)) ∗ Stems Z cs)
  contents_cut = parts_cut (RL E) (RK E) (RV E) 𝓛 (stem (RL E) (RK E) (RV E))
      (λ cs. run cs (seconds (bodies_of cs))) (id⊢ 𝓤 (emp 𝓤)) (λ c cs.
      qed 𝓛 (‵ (One E c) ∷ ‵ (run cs (seconds (bodies_of cs))) ∷ []) ∵ fsplit3 ! $
      move ! (1 ∷ 3 ∷ []) $ fjoin ! $ move ! (1 ∷ 2 ∷ []) $ fjoin ! $ move ! (1 ∷ 0 ∷ []) $ done !)

  -- what a node holds is forgotten
  emptied_body : (p : Ptr) (o : Content) → Entails 𝓛 (body p o) (body p None)
  emptied_body p None = id⊢ 𝓤 _
  emptied_body null_ptr (Some x) = qed 𝓛 (‵ (body null_ptr (Some x)) ∷ []) ∵ fsplit ! $ keep ! (0 ∷ []) $ by ! (never_e 𝓤 _)
  emptied_body (block_ptr b o) (Some x) = qed 𝓛 (‵ (body (block_ptr b o) (Some x)) ∷ []) ∵
      use1 𝓛 (‵ (froom (layout E.key) b (o + ko E)) ⊛ ‵ (froom (layout E.value) b (o + vo E))) (body_uninit 𝓛 E b o (Some x)) $ split ! $
      as_raw ! (layout E.key) b (o + ko E) $ move ! (1 ∷ []) $ as_raw ! (layout E.value) b
      (o + vo E) $ move ! (1 ∷ 0 ∷ []) $ fjoin ! $ done !

  -- some bodies at the nodes
  abbrev any_run : List (Node (RL E) (RK E) (RV E)) → Fml
  any_run cs = fex (List Content) (run cs)

  content_glue : (c : Node (RL E) (RK E) (RV E)) (cs : List (Node (RL E) (RK E) (RV E))) (ws : List Content)
      → Entails 𝓛 (run (c ∷ cs) ws ∗ stem (RL E) (RK E) (RV E) c) (any_run cs ∗ One E (cell c.at c.links None))
  content_glue c cs [] = qed 𝓛 (‵ ffalse ∷ ‵ (stem (RL E) (RK E) (RV E) c) ∷ []) ∵ keep ! (0 ∷ []) $ by ! (never_e 𝓤 _)
  content_glue c cs (w ∷ ws) = qed 𝓛 (‵ (run (c ∷ cs) (w ∷ ws)) ∷ ‵ (stem (RL E) (RK E) (RV E) c) ∷ []) ∵ fsplit ! $
      use1 𝓛 (‵ (body c.at None)) (emptied_body c.at w) $ move ! (2 ∷ []) $ fsplit ! $
      -- [the links; the deed; the body; the bodies]
      move ! (0 ∷ 2 ∷ 1 ∷ []) $ fjoin3 ! $ move ! (1 ∷ []) $ fpack ! (List Content) (run cs) ws $ done !

  pub contents_glue : (Z : Fml) (cs : List (Node (RL E) (RK E) (RV E))) → Entails 𝓛 (any_run cs ∗ Stems Z cs) (Cells E Z (cleared cs))
  contents_glue = parts_glue (RL E) (RK E) (RV E) 𝓛 (stem (RL E) (RK E) (RV E)) any_run (λ c. cell c.at c.links None) (λ c cs.
      qed 𝓛 (‵ (any_run (c ∷ cs)) ∷ ‵ (stem (RL E) (RK E) (RV E) c) ∷ []) ∵ fpick ! (λ ws. by ! (content_glue c cs ws)))

-- the loan's field, which takes no bytes
abbrev pub ContentMarker : NamedLft → (R S W : RattleType) → RattleType
ContentMarker a R S W = Struct (owning.shape (S-type.the_type a R S W))

pub content_loan_made : (a : NamedLft) (R S W : RattleType) {M : Type 1} {𝓤 : Ura M} (𝓛 : Logic 𝓤)
    → ent 𝓤 (emp 𝓤) (sem 𝓛 ((ContentMarker a R S W).own_val (tt, tt) (marker ∷ [])))
content_loan_made a R S W 𝓛 = makes_shadow 𝓛 ((ContentMarker a R S W).own_val (tt, tt)
    (marker ∷ [])) (λ vss. (tt, ((λ uss. (tt, tt)), tt)))
    ((vstruct vnil ∷ [], tt), (refl, ((tt, (refl, tt)), tt)))

-- an array of no bytes lies anywhere
abbrev pub Anchor : RattleType
Anchor = Array u8 0

pub anchor_made : {M : Type 1} {𝓤 : Ura M} (𝓛 : Logic 𝓤) (b o : ℕ) → ent 𝓤 (emp 𝓤) (sem 𝓛 ((mem Anchor).own_at [] b o))
unfolding part_of
anchor_made {𝓤 = 𝓤} 𝓛 b o = qed 𝓛 (raw (emp 𝓤) ∷ []) ∵
    use1 𝓛 (‵ (fat full_share (ty_array (ty_int w8) 0) b o (vstruct vnil))) (𝓛.laws.elems_at full_share (ty_int w8) b o []) $
    empty ! $ feq_i ! ℕ 0 0 refl $ feq_i ! (List Val) (vstruct vnil ∷ []) (vstruct vnil ∷ []) refl $
    fjoin ! $ move ! (0 ∷ 1 ∷ []) $ fjoin ! $
    fpack ! (List Val) (λ us. fsep (shape {X = ℕ} 0 [] (vstruct vnil ∷ []) us)
    (each ℕ u8.own_val [] us)) [] $ move ! (1 ∷ 0 ∷ []) $ fjoin ! $
    fpack ! (List Val) (λ us. fsep (cell_at full_share Anchor.mir us b o) (Anchor.own_val [] us)) (vstruct vnil ∷ []) $ done !

-- the nodes without their bodies, and the way back
module _ (E : Three) {M : Type 1} {𝓤 : Ura M} (𝓛 : Logic 𝓤) (h : (Nr E).Denot) (rb ro : ℕ) where
  abbrev pub Fields : Fml
  Fields = part_at (BareRow (RL E) (RK E) (RV E)) full_share h rb ro

  abbrev pub LentBodies : SemTy
  LentBodies = Bodies (RL E) (RK E) (RV E) (firsts (bodies_of h.cells))

  pub fields_made : (vs : List Val)
      → Entails 𝓛 ((Marker E).own_val (tt, tt) vs ∗ stems (RL E) (RK E) (RV E) (Land E h) h.cells ∗
      cell_at full_share (Nr E).mir vs rb ro) Fields
  unfolding part_of
  fields_made vs = qed 𝓛 (‵ ((Marker E).own_val (tt, tt) vs) ∷ ‵ (stems (RL E) (RK E) (RV E) (Land E h) h.cells)
      ∷ ‵ (cell_at full_share (Nr E).mir vs rb ro) ∷ []) ∵
      fjoin ! $ move ! (1 ∷ 0 ∷ []) $ fjoin ! $ fpack ! (List Val)
      (λ us. fsep (cell_at full_share (Nr E).mir us rb ro)
      ((BareRow (RL E) (RK E) (RV E)).own_val h us)) vs $ done !

  pub back : (δ : GName) (w : List ℕ)
      → ent 𝓤 (sep 𝓤 (sem 𝓛 ((mem Anchor).own_at w rb ro))
      (sep 𝓤 (sem 𝓛 (fseps (Borrowed LentBodies 0 0 δ ∷ Fields ∷ []))) (emp 𝓤)))
      (sem 𝓛 ((mem (Nr E)).own_at (cleared_nodes h) rb ro))
  unfolding fseps part_of
  back δ w = qed 𝓛 (‵ ((mem Anchor).own_at w rb ro) ∷ ‵ (fseps (Borrowed LentBodies 0 0 δ ∷ Fields ∷ [])) ∷ raw (emp 𝓤) ∷ []) ∵ drop ! $
      fsplit ! $
      fpick ! (λ os. fsplit ! $ move ! (2 ∷ []) $ fsplit ! $ fpick ! (λ vs. fsplit ! $ move ! (1 ∷ []) $ fsplit ! $
      -- [the marker; the stems; the cell; nothing; the bodies; their name; nothing]
      move ! (4 ∷ []) $ fpack ! (List (Content E 𝓛)) (run E 𝓛 h.cells) os $ move ! (0 ∷ 2 ∷ []) $
      use2 𝓛 (‵ (Cells E (Land E h) (cleared h.cells))) (contents_glue E 𝓛 (Land E h) h.cells) $
      move ! (1 ∷ 0 ∷ []) $ fjoin ! $ move ! (1 ∷ 0 ∷ []) $ fjoin ! $
      fpack ! (List Val) (λ us. fsep (cell_at full_share (Nr E).mir us rb ro)
      ((Nr E).own_val (cleared_nodes h) us)) vs $ keep ! (0 ∷ []) $ done !))
