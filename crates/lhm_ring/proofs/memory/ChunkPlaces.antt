-- The land of nodes is taken apart from them, and the memory of a chunk is cut into places, and
-- made of them again. Assumes `Logic`.
use Rattle.lhm_ring.proofs.Names.{ !, Chunk, Fml, List, Logic, Ptr, Ura, [], as_raw, block_ptr, body_owns, by, chunks_own, deed_owns, done}
use Rattle.lhm_ring.proofs.Names.{drop, ent, fjoin, fjoin3, froom, fsplit, ftrue, full_share, id⊢, in_a_block, keep, layout, lies_at}
use Rattle.lhm_ring.proofs.Names.{links_address, move, never, node_bytes, nothing, places_own, pointers, qed, refl, rewrite, room_for, row}
use Rattle.lhm_ring.proofs.Names.{sem, sep, split, suc, sym, ty_array, use1, use2, zero, ‵, ℕ, ◌$◌, ◌++◌, ◌+◌, ◌∵◌, ◌∷◌, ◌⊛◌}
use Rattle.lhm_ring.proofs.memory.NodeFields.{Cells, Node, One, RK, RL, RV, Three, body_uninit, ko, lo, uninit_left, vo}
use Rattle.lhm_ring.proofs.memory.PlaceCut.{block, block_glue}

module _ {M : Type 1} {𝓤 : Ura M} (𝓛 : Logic 𝓤) (E : Three) where
  pub land_cut : (Z : Fml) (cs : List (Node E)) → ent 𝓤 (sem 𝓛 (Cells E Z cs)) (sep 𝓤 (sem 𝓛 Z) (sem 𝓛 (Cells E ftrue cs)))
  land_cut Z [] = qed 𝓛 (‵ Z ∷ []) ∵ nothing ! $ move ! (1 ∷ 0 ∷ []) $ done !
  land_cut Z (c ∷ cs) = qed 𝓛 (‵ (Cells E Z (c ∷ cs)) ∷ []) ∵ fsplit ! $ move ! (1 ∷ []) $
      use1 𝓛 (‵ Z ⊛ ‵ (Cells E ftrue cs)) (land_cut Z cs) $ split ! $ move ! (2 ∷ 1 ∷ []) $ fjoin ! $ move ! (1 ∷ 0 ∷ []) $ done !

  pub land_glue : (Z : Fml) (cs : List (Node E)) → ent 𝓤 (sep 𝓤 (sem 𝓛 Z) (sem 𝓛 (Cells E ftrue cs))) (sem 𝓛 (Cells E Z cs))
  land_glue Z [] = qed 𝓛 (‵ Z ∷ ‵ ftrue ∷ []) ∵ keep ! (0 ∷ []) $ done !
  land_glue Z (c ∷ cs) = qed 𝓛 (‵ Z ∷ ‵ (Cells E ftrue (c ∷ cs)) ∷ []) ∵ move ! (1 ∷ []) $ fsplit ! $ move ! (2 ∷ 1 ∷ []) $
      use2 𝓛 (‵ (Cells E Z cs)) (land_glue Z cs) $ move ! (1 ∷ 0 ∷ []) $
      fjoin ! $ done !

  abbrev pub Places : List Ptr → Fml
  Places = places_own (RL E) (RK E) (RV E)

  abbrev pub Chunks : List Chunk → Fml
  Chunks = chunks_own (RL E) (RK E) (RV E)

  abbrev pub bytes : ℕ
  bytes = node_bytes (RL E) (RK E) (RV E)

  pub places_cut : (ps qs : List Ptr) → ent 𝓤 (sem 𝓛 (Places (ps ++ qs))) (sep 𝓤 (sem 𝓛 (Places ps)) (sem 𝓛 (Places qs)))
  places_cut [] qs = qed 𝓛 (‵ (Places qs) ∷ []) ∵ nothing ! $ done !
  places_cut (p ∷ ps) qs = qed 𝓛 (‵ (Places (p ∷ ps ++ qs)) ∷ []) ∵ fsplit ! $ move ! (1 ∷ []) $
      use1 𝓛 (‵ (Places ps) ⊛ ‵ (Places qs)) (places_cut ps qs) $ split ! $ move ! (2 ∷ 0 ∷ []) $ fjoin ! $ done !

  pub places_glue : (ps qs : List Ptr) → ent 𝓤 (sep 𝓤 (sem 𝓛 (Places ps)) (sem 𝓛 (Places qs))) (sem 𝓛 (Places (ps ++ qs)))
  places_glue [] qs = qed 𝓛 (‵ ftrue ∷ ‵ (Places qs) ∷ []) ∵ drop ! $ done !
  places_glue (p ∷ ps) qs = qed 𝓛 (‵ (Places (p ∷ ps)) ∷ ‵ (Places qs) ∷ []) ∵ fsplit ! $ move ! (1 ∷ 2 ∷ []) $
      use2 𝓛 (‵ (Places (ps ++ qs))) (places_glue ps qs) $ move ! (1 ∷ 0 ∷ []) $
      fjoin ! $ done !

  pub array_cut : (n b o : ℕ) → ent 𝓤 (sem 𝓛 (froom (ty_array (block E) n) b o)) (sem 𝓛 (Places (row (block_ptr b o) bytes n)))
  unfolding row
  array_cut zero b o = qed 𝓛 (‵ (froom (ty_array (block E) 0) b o) ∷ []) ∵ drop ! $ nothing ! $ done !
  array_cut (suc n) b o = let q : Ptr = block_ptr b (o + bytes) in qed 𝓛 (‵ (froom (ty_array (block E) (suc n)) b o) ∷ []) ∵
      use1 𝓛 (‵ (froom (block E) b o) ⊛ ‵ (froom (ty_array (block E) n) b (o + bytes)))
      (𝓛.laws.room_uncons (block E) n b o) $ split ! $ move ! (1 ∷ []) $
      use1 𝓛 (‵ (Places (row q bytes n))) (array_cut n b (o + bytes)) $ move ! (1 ∷ 0 ∷ []) $ fjoin ! $ done !

  pub array_glue : (n b o : ℕ) → ent 𝓤 (sem 𝓛 (Places (row (block_ptr b o) bytes n))) (sem 𝓛 (froom (ty_array (block E) n) b o))
  unfolding row
  array_glue zero b o = 𝓛.laws.room_nil (block E) b o
  array_glue (suc n) b o = qed 𝓛 (‵ (Places (row (block_ptr b o) bytes (suc n))) ∷ []) ∵ fsplit ! $ move ! (1 ∷ []) $
      use1 𝓛 (‵ (froom (ty_array (block E) n) b (o + bytes))) (array_glue n b (o + bytes)) $ move ! (1 ∷ 0 ∷ []) $
      by ! (𝓛.laws.room_cons (block E) n b o)

  -- a node and what it holds are forgotten
  emptied : (c : Node E) → ent 𝓤 (sem 𝓛 (One E c)) (sem 𝓛 (room_for (block E) c.at))
  emptied c = qed 𝓛 (‵ (One E c) ∷ []) ∵ fsplit ! $ in_a_block ! c.at
      (λ q. lies_at (RL E) full_share (links_address (RL E) (RK E) (RV E) q) c.links)
      (id⊢ 𝓤 (never 𝓤)) (λ b o e.
      use1 𝓛 (‵ (froom (layout E.links) b (o + lo E)))
      (uninit_left 𝓛 b (o + lo E) 0 E.links E.links_laws c.links) $ as_raw ! (layout E.links) b
      (o + lo E) $ move ! (1 ∷ []) $ fsplit ! $
      rewrite ! 0 (λ (q : Ptr). ‵ (body_owns (RL E) (RK E) (RV E) q c.body)) e refl $
      use1 𝓛 (‵ (froom (layout E.key) b (o + ko E)) ⊛ ‵ (froom (layout E.value) b (o + vo E))) (body_uninit 𝓛 E b o c.body) $ split ! $
      as_raw ! (layout E.key) b (o + ko E) $ move ! (1 ∷ []) $ as_raw ! (layout E.value) b (o + vo E) $
      -- [the value's memory; the key's; the deed; the links' memory]
      rewrite ! 2 (λ (q : Ptr). ‵ (deed_owns (RL E) (RK E) (RV E) q)) e refl $ move ! (3 ∷ 1 ∷ 0 ∷ []) $ fjoin3 ! $
      use2 𝓛 (‵ (froom (block E) b o)) (block_glue E 𝓛 b o) $ rewrite ! 0 (λ (q : Ptr). ‵ (room_for (block E) q)) (sym e) refl $ done !)

  -- all nodes become places
  pub cells_emptied : (cs : List (Node E)) → ent 𝓤 (sem 𝓛 (Cells E ftrue cs)) (sem 𝓛 (Places (pointers cs)))
  cells_emptied [] = id⊢ 𝓤 _
  cells_emptied (c ∷ cs) = qed 𝓛 (‵ (Cells E ftrue (c ∷ cs)) ∷ []) ∵ fsplit ! $ use1 𝓛 (‵ (room_for (block E) c.at)) (emptied c) $
      move ! (1 ∷ []) $
      use1 𝓛 (‵ (Places (pointers cs))) (cells_emptied cs) $ move ! (1 ∷ 0 ∷ []) $ fjoin ! $ done !
