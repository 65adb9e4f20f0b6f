-- A ring is cut into its values and the rest, and made of them again. Assumes `Logic`.
--     nodes_cut, nodes_glue      the values are taken out of the nodes, and others are put in their places
--     Unvalued      the nodes without values, as a type: what a `&` to nodes of holes shows is what
--     a `&` to it shows
--     ring_cut, ring_glue      the same of a whole ring in memory
--     back      the way back of a loan of a ring's values
use Rattle.lhm_ring.proofs.Names.{List, None, Option, Some, [], map, refl, subst, ◌++◌, ◌∙◌, ◌∷◌, content_of, contents, one_of, Cell}
use Rattle.lhm_ring.proofs.Names.{body_owns, cell_lent, cell_owns, cells_lent, cells_own, cell, deed_owns, key_address, land_owns}
use Rattle.lhm_ring.proofs.Names.{links_address, value_address, Held, State, set_held_values, state, with_values, AreLent, Links, Nodes}
use Rattle.lhm_ring.proofs.Names.{Spread, spread, Fml, Incl, Lft, fseps, ftrue, full_share, ap, comm∗, emp, ent, id⊢, never_e, sep}
use Rattle.lhm_ring.proofs.Names.{cell_raw, mem, part_at, part_of, raw_all, ◌≡◌, ℕ, Plain-in, view_made, view_owns, Sharable, Denots}
use Rattle.lhm_ring.proofs.Names.{RattleType, Valss, Ptr, block_ptr, lies_at, null_ptr, NamedLft, makes_shadow, Shares-less, beside}
use Rattle.lhm_ring.proofs.Names.{nothing as empty, Lends, Lends-both, Lends-first, Lends-lies, Lends-nothing, lending_shared, lent_at}
use Rattle.lhm_ring.proofs.Names.{Shape, Struct, within, Val, vnil, vstruct, Ura, !, by, done, drop, fjoin, fjoin3, fpack, fpick, fsplit}
use Rattle.lhm_ring.proofs.Names.{fsplit3, keep, move, qed, raw, split, use1, use2, ‵, ◌$◌, ◌∵◌, ◌⊛◌, Logic, sem, SemTy}
use Rattle.lhm_ring.proofs.memory.Sharing.{Law-thin, Lends-less, Lends-parts, Thin, parts_own}
use Rattle.lhm_ring.proofs.memory.ValuesInOrder.{IsOwned-written, contents-written, left_over, new_body, pointers-written, run_of, written}
use Rattle.lhm_ring.proofs.memory.PartsTaken.{Entails, parts_cut, ◌∗◌}
use Rattle.lhm_ring.proofs.{memory.NodeFields.marker, memory.NodeTaken.with_cells, rings.HeldPointers.IsApart-owned}
use denote.{Param.Laws.Laws, Sharing.nothing, Struct.Field.Field, Struct.Field.rows, Struct.Values.intos}
use denote.Struct.Declared as declared
use denote.Struct.Owning as owning
use Rattle.lhm_ring.specs.contracts.links.Links as links
use Rattle.lhm_ring.specs.contracts.value_loan.Hole as H-type
use Rattle.lhm_ring.specs.contracts.value_loan.ValueLoan as L-type
use Rattle.lhm_ring.specs.contracts.ring.Ring as R-type
use Rattle.lhm_ring.specs.contracts.ring.Ring.TheInside as I-type
use Rattle.lhm_ring.specs.declared.ring.Ring.TheInside as D-type

abbrev behind : List Field → List Field
behind [] = []
behind (F ∷ Fs) = Fs

module _ (S W : RattleType) where
  abbrev R : RattleType
  R = links.the_row

  abbrev pub Hr : RattleType
  Hr = H-type.the_row W

  abbrev Body : Type 0
  Body = Option (S.Denot × W.Denot)

  abbrev Node : Type 0
  Node = Cell Links (S.Denot × W.Denot)

  abbrev Triples : Type 0
  Triples = List (Held (S.Denot × W.Denot))

  abbrev Seen : Type 0
  Seen = State (S.Denot × W.Denot)

  -- where the values of what is held lie, and which they are
  abbrev pub places : Triples → List Ptr
  places hs = map (λ c. value_address R S W c.0) (run_of hs)

  abbrev pub vals : Triples → List W.Denot
  vals hs = map (λ c. c.1) (run_of hs)

  abbrev Owns : Triples → List W.Denot → Fml
  Owns hs ws = spread W (places hs) ws

  -- what a node at p with the links l and the body b holds, before hs
  abbrev before : Ptr → Links → Body → Triples → Triples
  before p l b hs = one_of (content_of p (Some l) b) ++ hs

  -- a node without its value
  abbrev body_frame : Ptr → Body → Fml
  body_frame p None = body_owns R S W p None
  body_frame p (Some x) = lies_at S full_share (key_address R S W p) x.0

  abbrev links_own : Node → Fml
  links_own c = lies_at R full_share (links_address R S W c.at) c.links

  abbrev frame : Node → Fml
  frame c = links_own c ∗ body_frame c.at c.body ∗ deed_owns R S W c.at

  -- the nodes without their values, and `others` beside them
  abbrev frames : Fml → List Node → Fml
  frames others = parts_own frame others

  abbrev key_lent : Ptr → Body → Lft → Fml
  key_lent p None = nothing
  key_lent p (Some x) = lent_at S (key_address R S W p) x.0

  abbrev links_lent : Node → Lft → Fml
  links_lent c = lent_at R (links_address R S W c.at) c.links

  module _ {M : Type 1} {𝓤 : Ura M} (𝓛 : Logic 𝓤) where
    cut_body : (p : Ptr) (l : Links) (b : Body) (hs : Triples)
        → Entails 𝓛 (body_owns R S W p b ∗ Owns hs (vals hs)) (Owns (before p l b hs) (vals (before p l b hs)) ∗ body_frame p b)
    cut_body p l None hs = comm∗ 𝓤 (sem 𝓛 (body_owns R S W p None)) (sem 𝓛 (Owns hs (vals hs)))
    cut_body p l (Some x) hs = qed 𝓛 (‵ (body_owns R S W p (Some x)) ∷ ‵ (Owns hs (vals hs)) ∷ []) ∵
        fsplit ! $ move ! (1 ∷ 2 ∷ []) $ fjoin ! $ done !

    nodes_cut : (Z : Fml) (cs : List Node)
        → Entails 𝓛 (cells_own R S W Z cs) (Owns (contents cs) (vals (contents cs)) ∗ frames Z cs)
    unfolding contents
    nodes_cut = parts_cut R S W 𝓛 frame (λ cs. Owns (contents cs) (vals (contents cs))) (id⊢ 𝓤 (emp 𝓤)) (λ c cs.
        let hs = contents cs in let all = before c.at c.links c.body hs in
        qed 𝓛 (‵ (cell_owns R S W c) ∷ ‵ (Owns hs (vals hs)) ∷ []) ∵ fsplit3 ! $ move ! (1 ∷ 3 ∷ []) $
        use2 𝓛 (‵ (Owns all (vals all)) ⊛ ‵ (body_frame c.at c.body)) (cut_body c.at c.links c.body hs) $ split ! $
        move ! (2 ∷ 1 ∷ 3 ∷ []) $ fjoin3 ! $ move ! (1 ∷ 0 ∷ []) $ done !)

    glue_body : (p : Ptr) (l : Links) (b : Body) (hs : Triples) (ws : List W.Denot)
        → Entails 𝓛 (Owns (before p l b hs) ws ∗ body_frame p b) (Owns hs (left_over b ws) ∗ body_owns R S W p (new_body b ws))
    glue_body p l None hs ws = id⊢ 𝓤 _
    glue_body p l (Some x) hs [] = qed 𝓛 (‵ (Owns (before p l (Some x) hs) []) ∷ ‵ (body_frame p (Some x)) ∷ []) ∵
        keep ! (0 ∷ []) $ by ! (never_e 𝓤 _)
    glue_body p l (Some x) hs (w ∷ ws) = qed 𝓛 (‵ (Owns (before p l (Some x) hs) (w ∷ ws)) ∷ ‵ (body_frame p (Some x)) ∷ []) ∵
        fsplit ! $ move ! (2 ∷ 0 ∷ []) $ fjoin ! $ move ! (1 ∷ 0 ∷ []) $ done !

    nodes_glue : (Z : Fml) (cs : List Node) (ws : List W.Denot)
        → Entails 𝓛 (Owns (contents cs) ws ∗ frames Z cs) (cells_own R S W Z (written cs ws))
    unfolding contents
    nodes_glue Z [] ws = qed 𝓛 (‵ (Owns [] ws) ∷ ‵ Z ∷ []) ∵ drop ! $ done !
    nodes_glue Z (c ∷ cs) ws = let hs = contents cs in let us = left_over c.body ws in let b = new_body c.body ws in
        qed 𝓛 (‵ (Owns (before c.at c.links c.body hs) ws) ∷ ‵ (frames Z (c ∷ cs)) ∷ []) ∵ move ! (1 ∷ []) $ fsplit ! $ fsplit3 ! $
        -- [the links; the body; the deed; the others; the values]
        move ! (4 ∷ 1 ∷ []) $ use2 𝓛 (‵ (Owns hs us) ⊛ ‵ (body_owns R S W c.at b)) (glue_body c.at c.links c.body hs ws) $ split ! $
        move ! (0 ∷ 4 ∷ []) $ use2 𝓛 (‵ (cells_own R S W Z (written cs us))) (nodes_glue Z cs us) $
        move ! (2 ∷ 1 ∷ 3 ∷ []) $ fjoin3 ! $ fjoin ! $ done !

    -- what is lent of a frame shows what a node of holes does
    frame_seen : (κ : Lft) (p : Ptr) (l : Links) (b : Body)
        → Entails 𝓛 (lent_at R (links_address R S W p) l κ ∗ key_lent p b κ) (cell_lent R S Hr (cell p l b) κ)
    frame_seen κ p l None = id⊢ 𝓤 _
    frame_seen κ null_ptr l (Some x) =
        qed 𝓛 (‵ (lent_at R (links_address R S W null_ptr) l κ) ∷ ‵ (key_lent null_ptr (Some x) κ) ∷ []) ∵
        fsplit ! $ keep ! (0 ∷ []) $ by ! (never_e 𝓤 _)
    frame_seen κ (block_ptr b o) l (Some x) =
        qed 𝓛 (‵ (lent_at R (links_address R S W (block_ptr b o)) l κ) ∷ ‵ (key_lent (block_ptr b o) (Some x) κ) ∷ []) ∵
        empty ! $ empty ! $ fjoin ! $ move ! (2 ∷ 0 ∷ []) $ fjoin ! $ move ! (1 ∷ 0 ∷ []) $ fjoin ! $ done !

    module _ (LR : Laws R) (LS : Laws S) (l : Lft) (incR : Incl l R.lives) (incS : Incl l S.lives) where
      Lends-body : (p : Ptr) (b : Body) → Lends 𝓛 (body_frame p b) (key_lent p b) l
      Lends-body p None = Lends-nothing 𝓛 (body_owns R S W p None) l
      Lends-body p (Some x) = Lends-lies 𝓛 S l (key_address R S W p) x.0 (Shares-less 𝓛 S S.lives l incS (LS.shares 𝓛) x.0)

      Lends-frames : (Z : Fml) (cs : List Node) → Lends 𝓛 (frames Z cs) (cells_lent R S Hr cs) l
      Lends-frames = Lends-parts 𝓛 l R S Hr frame (λ c.
          Lends-less 𝓛 l (frame c) (beside (links_lent c) (key_lent c.at c.body)) (cell_lent R S Hr c)
          (Lends-both 𝓛 (links_own c) (body_frame c.at c.body ∗ deed_owns R S W c.at) (links_lent c) (key_lent c.at c.body) l
          (Lends-lies 𝓛 R l (links_address R S W c.at) c.links (Shares-less 𝓛 R R.lives l incR (LR.shares 𝓛) c.links))
          (Lends-first 𝓛 (body_frame c.at c.body) (deed_owns R S W c.at) (key_lent c.at c.body) l (Lends-body c.at c.body)))
          (λ κ. frame_seen κ c.at c.links c.body))

  -- the nodes without their values, as a type
  abbrev land : Nodes Links S.Denot W.Denot → Fml
  land n = land_owns R S W n.node_bytes n.unused n.chunks

  abbrev Unvalued : owning.Owning
  Unvalued = Thin R S Hr (λ n. frames (land n) n.cells)

  pub Sharable-unvalued : (LR : Laws R) (LS : Laws S) (LH : Laws Hr) → Sharable (owning.field Unvalued)
  Sharable-unvalued LR LS LH = lending_shared Unvalued (Law-thin R S Hr (λ n. frames (land n) n.cells) LR LS LH
      (λ M 𝓤 𝓛 l inR inS _ n. Lends-frames 𝓛 LR LS l inR inS (land n) n.cells))

  -- a whole ring, whose nodes are without their values
  abbrev pub Inside : Type 0
  Inside = D-type.Inside S.Denot W.Denot

  abbrev pub Full : RattleType
  Full = I-type.the_row S W

  abbrev values_of : Inside → Denots (rows (I-type.struct S W).parts)
  values_of a = intos (I-type.struct S W).parts ((I-type.struct S W).as_values a)

  abbrev pub parts : List Field
  parts = owning.field Unvalued ∷ behind (I-type.struct S Hr).parts

  abbrev pub thin_shape : Shape
  thin_shape = record { name = (I-type.struct S W).name; args = []; types = S ∷ Hr ∷ []; fields = rows parts }

  abbrev pub Thinned : RattleType
  Thinned = Struct thin_shape

  abbrev pub thinned : Inside → Thinned.Denot
  thinned a = (a.nodes, (values_of a).1)

  abbrev pub held_by : Inside → Triples
  held_by a = contents a.nodes.cells

  abbrev pub Vals : Inside → SemTy
  Vals a = Spread W (places (held_by a))

  abbrev Lr : RattleType
  Lr = R-type.the_row S W

  abbrev pub view : Inside → Seen
  view = R-type.the_view S W

  abbrev pub good : Inside → Type 0
  good = R-type.the_invariant S W

  module _ {M : Type 1} {𝓤 : Ura M} (𝓛 : Logic 𝓤) (a : Inside) (b o : ℕ) where
    abbrev pub Fields : Fml
    Fields = part_at Thinned full_share (thinned a) b o

    pub ring_cut : Entails 𝓛 (part_at Full full_share a b o) (Owns (held_by a) (vals (held_by a)) ∗ Fields)
    unfolding part_of
    ring_cut = let hs = held_by a in
        qed 𝓛 (‵ (part_at Full full_share a b o) ∷ []) ∵
        fpick ! (λ vs. fsplit ! $ move ! (1 ∷ []) $ fpick ! (λ vss. fsplit ! $ move ! (1 ∷ []) $ fsplit ! $ fsplit ! $
        -- [the marker; the nodes; the other fields; the value; the cell]
        move ! (1 ∷ []) $ use1 𝓛 (‵ (Owns hs (vals hs)) ⊛ ‵ (frames (land a.nodes) a.nodes.cells))
        (nodes_cut 𝓛 (land a.nodes) a.nodes.cells) $ split ! $
        move ! (2 ∷ 1 ∷ []) $ fjoin ! $ move ! (0 ∷ 2 ∷ []) $ fjoin ! $ move ! (2 ∷ 0 ∷ []) $ fjoin ! $
        fpack ! (Valss (rows parts)) (within thin_shape (thinned a) vs) vss $ move ! (2 ∷ 0 ∷ []) $ fjoin ! $
        fpack ! (List Val) (λ us. cell_raw full_share (raw_all Thinned.mir) us b o ∗ Thinned.own_val (thinned a) us) vs $
        move ! (1 ∷ []) $ done !))

    module _ (ws : List W.Denot) where
      abbrev glued : Inside
      glued = record a { nodes = with_cells a.nodes (written a.nodes.cells ws) (pointers-written a.nodes.cells ws) }

      ring_glue : Entails 𝓛 (Owns (held_by a) ws ∗ Fields) (part_at Full full_share glued b o)
      unfolding part_of
      ring_glue = qed 𝓛 (‵ (Owns (held_by a) ws) ∷ ‵ Fields ∷ []) ∵
          move ! (1 ∷ []) $ fpick ! (λ vs. fsplit ! $ move ! (1 ∷ []) $ fpick ! (λ vss. fsplit ! $ move ! (1 ∷ []) $ fsplit ! $ fsplit ! $
          -- [the marker; the frames; the other fields; the value; the cell; the values]
          move ! (5 ∷ 1 ∷ []) $ use2 𝓛 (‵ (cells_own R S W (land a.nodes) (written a.nodes.cells ws)))
          (nodes_glue 𝓛 (land a.nodes) a.nodes.cells ws) $
          move ! (1 ∷ 0 ∷ []) $ fjoin ! $ fjoin ! $ move ! (1 ∷ 0 ∷ []) $ fjoin ! $
          fpack ! (Valss (rows (I-type.struct S W).parts)) (within (declared.shape (I-type.the_type S W)) (values_of glued) vs) vss $
          move ! (1 ∷ 0 ∷ []) $ fjoin ! $
          fpack ! (List Val) (λ us. cell_raw full_share (raw_all Full.mir) us b o ∗ Full.own_val glued us) vs $ done !))

    module _ {d : Seen} (seen : view a ≡ d) (ok : good a) where
      pub AreLent-held : AreLent (run_of (held_by a)) d.held
      AreLent-held = subst (λ (s : Seen). AreLent (run_of (held_by a)) s.held) seen (record { lent = refl; apart = IsApart-owned ok.ring })

      -- the values ws come back, in order
      pub back : (ws : List W.Denot)
          → ent 𝓤 (sep 𝓤 (sem 𝓛 ((Vals a).own_at ws 0 0)) (sep 𝓤 (sem 𝓛 (fseps (Fields ∷ []))) (emp 𝓤)))
          (sem 𝓛 ((mem Lr).own_at (with_values d ws) b o))
      unfolding fseps
      back ws =
          let held_now = contents-written a.nodes.cells ws ∙ ap (λ (s : Seen). set_held_values s.held ws) seen in
          let now : view (glued ws) ≡ with_values d ws = λ i. state (held_now i) (seen i).spares (seen i).nodes in
          qed 𝓛 (‵ ((Vals a).own_at ws 0 0) ∷ ‵ (Fields ∗ ftrue) ∷ raw (emp 𝓤) ∷ []) ∵ move ! (1 ∷ []) $ fsplit ! $ move ! (2 ∷ 0 ∷ []) $
          use2 𝓛 (‵ (part_at Full full_share (glued ws) b o)) (ring_glue ws) $ keep ! (0 ∷ []) $
          by ! (Plain-in Lr Full (view_owns Full Seen Lr.coded view good) 𝓛 full_share (with_values d ws) (glued ws)
          (view_made Full Seen Lr.coded view good 𝓛 (with_values d ws) (glued ws)
          (now, record { ring = IsOwned-written a.ends a.nodes.cells ws ok.ring; laid = ok.laid })) b o)

-- the loan's field, which takes no bytes
abbrev pub LoanMarker : NamedLft → (S W : RattleType) → RattleType
LoanMarker a S W = Struct (owning.shape (L-type.the_type a links.the_row S W))

pub loan_made : (a : NamedLft) (S W : RattleType) {M : Type 1} {𝓤 : Ura M} (𝓛 : Logic 𝓤)
    → ent 𝓤 (emp 𝓤) (sem 𝓛 ((LoanMarker a S W).own_val (tt, tt) (marker ∷ [])))
loan_made a S W 𝓛 = makes_shadow 𝓛 ((LoanMarker a S W).own_val (tt, tt) (marker ∷ []))
    (λ vss. (tt, ((λ uss. (tt, tt)), tt))) ((vstruct vnil ∷ [], tt), (refl, ((tt, (refl, tt)), tt)))
