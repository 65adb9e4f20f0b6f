-- One node is taken out of the nodes, and put back, changed. Assumes `Logic`.
use Rattle.lhm_ring.proofs.Names.{ !, AreBlocks, Cell, Fml, Goal, IsApart, IsRearranged, Item, Lft, List, Logic, Nodes, Ptr, Seq, Ura, []}
use Rattle.lhm_ring.proofs.Names.{block_ptr, body_owns, cell_lent, cells_lent, change, deed_owns, done, ent, fjoin, fsplit, fst∗}
use Rattle.lhm_ring.proofs.Names.{full_share, id⊢, in_a_block, lies_at, links_address, move, never, places, pointers, pointers-change, qed}
use Rattle.lhm_ring.proofs.Names.{refl, rewrite, sem, sep, snd∗, split, subst, sym, use1, use2, via, ‵, ℕ, ◌$◌, ◌++◌, ◌∵◌, ◌∷◌, ◌≡◌, ◌⊛◌}
use Rattle.lhm_ring.proofs.memory.NodeFields.{Cells, Node, One, RK, RL, RV, Three}
use Rattle.lhm_ring.proofs.rings.Lookup.{Cut}

module _ {L K V : Type 0} (n : Nodes L K V) where
  -- the same nodes, as cells at the same pointers
  abbrev pub with_cells : (cs : List (Cell L (K × V))) → pointers cs ≡ pointers n.cells → Nodes L K V
  with_cells cs same = record n {
    cells = cs;
    apart = subst IsApart (sym same) n.apart;
    blocks = subst AreBlocks (sym same) n.blocks;
    laid = subst (λ (ps : List Ptr). IsRearranged (n.unused ++ ps) (places n.node_bytes n.chunks)) (sym same) n.laid;
  }

  -- the same, of which the one at p is changed
  abbrev pub changed_at : Ptr → (f : Cell L (K × V) → Cell L (K × V)) → ((c : Cell L (K × V)) → (f c).at ≡ c.at) → Nodes L K V
  changed_at p f same = with_cells (change p f n.cells) (pointers-change p f same n.cells)

module _ {M : Type 1} {𝓤 : Ura M} (𝓛 : Logic 𝓤) (E : Three) where
  module _ (Z : Fml) where
    pub cells_cut : (xs : List (Node E)) (c : Node E) (ys : List (Node E))
        → ent 𝓤 (sem 𝓛 (Cells E Z (xs ++ c ∷ ys))) (sep 𝓤 (sem 𝓛 (One E c)) (sem 𝓛 (Cells E Z (xs ++ ys))))
    cells_cut [] c ys = id⊢ 𝓤 _
    cells_cut (x ∷ xs) c ys = qed 𝓛 (‵ (Cells E Z (x ∷ xs ++ c ∷ ys)) ∷ []) ∵ fsplit ! $ move ! (1 ∷ []) $
        use1 𝓛 (‵ (One E c) ⊛ ‵ (Cells E Z (xs ++ ys))) (cells_cut xs c ys) $ split ! $ move ! (2 ∷ 1 ∷ []) $ fjoin ! $ move ! (1 ∷ []) $
        done !

    pub cells_glue : (xs : List (Node E)) (c : Node E) (ys : List (Node E))
        → ent 𝓤 (sep 𝓤 (sem 𝓛 (One E c)) (sem 𝓛 (Cells E Z (xs ++ ys)))) (sem 𝓛 (Cells E Z (xs ++ c ∷ ys)))
    cells_glue [] c ys = id⊢ 𝓤 _
    cells_glue (x ∷ xs) c ys = qed 𝓛 (‵ (One E c) ∷ ‵ (Cells E Z (x ∷ xs ++ ys)) ∷ []) ∵ move ! (1 ∷ []) $ fsplit ! $ move ! (2 ∷ 1 ∷ []) $
        use2 𝓛 (‵ (Cells E Z (xs ++ c ∷ ys))) (cells_glue xs c ys) $ move ! (1 ∷ 0 ∷ []) $ fjoin ! $ done !

    module _ {cs : List (Node E)} {p : Ptr} (k : Cut cs p) where
      -- all but the node at p
      abbrev pub Others : Fml
      Others = Cells E Z (k.split.before ++ k.split.after)

      pub node_cut : ent 𝓤 (sem 𝓛 (Cells E Z cs)) (sep 𝓤 (sem 𝓛 (One E k.split.node)) (sem 𝓛 Others))
      node_cut = subst (λ ds. ent 𝓤 (sem 𝓛 (Cells E Z ds)) (sep 𝓤 (sem 𝓛 (One E k.split.node))
          (sem 𝓛 Others))) (sym k.split.is) (cells_cut k.split.before k.split.node k.split.after)

      pub node_glue : (f : Node E → Node E)
          → ent 𝓤 (sep 𝓤 (sem 𝓛 (One E (f k.split.node))) (sem 𝓛 Others)) (sem 𝓛 (Cells E Z (change p f cs)))
      node_glue f = subst (λ ds. ent 𝓤 (sep 𝓤 (sem 𝓛 (One E (f k.split.node))) (sem 𝓛 Others))
          (sem 𝓛 (Cells E Z ds))) (sym (k.changed f))
          (cells_glue k.split.before (f k.split.node) k.split.after)

  -- seen through a `&`
  pub cell_seen : (κ : Lft) (xs : List (Node E)) (c : Node E) (ys : List (Node E))
      → ent 𝓤 (sem 𝓛 (cells_lent (RL E) (RK E) (RV E) (xs ++ c ∷ ys) κ)) (sem 𝓛 (cell_lent (RL E) (RK E) (RV E) c κ))
  cell_seen κ [] c ys = fst∗ 𝓤 _ (sem 𝓛 (cells_lent (RL E) (RK E) (RV E) ys κ))
  cell_seen κ (x ∷ xs) c ys = via 𝓤 _ (snd∗ 𝓤 (sem 𝓛 (cell_lent (RL E) (RK E) (RV E) x κ)) _) (cell_seen κ xs c ys)

module _ {M : Type 1} {𝓤 : Ura M} {𝓛 : Logic 𝓤} {K : Type 0} {Γ : List (Item 𝓤)} {G : Goal 𝓤 𝓛.H} where
  -- the node at p, in three, and the other nodes
  pub node_opens : K → (E : Three) (Z : Fml) {cs : List (Node E)} {p : Ptr} (k : Cut cs p)
      → ((b o : ℕ) → k.split.node.at ≡ block_ptr b o → Seq K 𝓛 (‵ (body_owns (RL E) (RK E) (RV E) k.split.node.at k.split.node.body)
      ∷ ‵ (deed_owns (RL E) (RK E) (RV E) k.split.node.at)
      ∷ ‵ (lies_at (RL E) full_share (links_address (RL E) (RK E) (RV E) k.split.node.at) k.split.node.links) ∷ ‵ (Others 𝓛 E Z k) ∷ Γ) G)
      → Seq K 𝓛 (‵ (Cells E Z cs) ∷ Γ) G
  node_opens t E Z k f = let Links = λ (q : Ptr). lies_at (RL E) full_share (links_address (RL E) (RK E) (RV E) q) k.split.node.links in
      use1 𝓛 (‵ (One E k.split.node) ⊛ ‵ (Others 𝓛 E Z k)) (node_cut 𝓛 E Z k) $ split t $ fsplit t $
      in_a_block t k.split.node.at Links (id⊢ 𝓤 (never 𝓤)) (λ b o e.
      rewrite t 0 (λ (q : Ptr). ‵ (Links q)) (sym e) refl $ move t (1 ∷ []) $ fsplit t $ f b o e)
