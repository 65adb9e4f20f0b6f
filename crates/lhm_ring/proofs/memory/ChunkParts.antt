-- The memory of a chunk's block is split into that of its head and that of its nodes. Assumes `Logic`.
use Rattle.lhm_ring.proofs.Names.{ !, IsChunk, Logic, SProp, Ty, Ura, [], align, ap, apply∗, arith, as_raw, as_written, assume, block_ptr}
use Rattle.lhm_ring.proofs.Names.{chunk_type, chunk_units, done, ent, fjoin, frame, froom, fsplit, fwand, head_type, layout, move}
use Rattle.lhm_ring.proofs.Names.{mul_assoc, next, one_more, qed, raw, refl, rewrite, room_for, sem, sep, size, split, suc, sym, tcons}
use Rattle.lhm_ring.proofs.Names.{tnil, ty_array, ty_int, type_size, unit_bytes, use1, use2, w64, wand, zero, ‵, ℕ, ◌$◌, ◌*◌, ◌+◌, ◌/◌}
use Rattle.lhm_ring.proofs.Names.{◌∙◌, ◌∵◌, ◌∷◌, ◌≡◌, ◌⊛◌}
use Rattle.lhm_ring.proofs.memory.{ChunkSizes.units-times, NodeFields.RK, NodeFields.RL, NodeFields.RV, NodeFields.Three, PlaceCut.written}
use denote.RawPtr.Room.{past, room_cut, room_glue}
use prog.Align.{Dv, head_aligns, tail_aligns}
use Rattle.lhm_ring.specs.{Nodes.parts_own, contracts.nodes.ChunkUnit.the_row as unit, contracts.nodes.Node.the_row as node}
use mir.Raw.{raw as bare}

-- where m values of τ end
pub past-times : (τ : Ty) (m o : ℕ) → past τ m o ≡ o + m * size τ
past-times τ zero o = omega arith
past-times τ (suc m) o = let e = past-times τ m (o + size τ) in let f = next m (size τ) in let g = one_more m in omega arith

module _ (E : Three) where
  abbrev pub units : ℕ → ℕ
  units = chunk_units (RL E) (RK E) (RV E)

  abbrev pub Unit_type : Ty
  Unit_type = layout (unit (RL E) (RK E) (RV E))

  abbrev pub u : ℕ
  u = unit_bytes (RL E) (RK E) (RV E)

  abbrev pub s : ℕ
  s = type_size (node (RL E) (RK E) (RV E))

  head_aligned : Dv (align head_type) (align Unit_type)
  head_aligned = tail_aligns (ty_array (written E) 0) (tcons (ty_int w64) tnil)

  node_aligned : Dv (align (written E)) (align Unit_type)
  node_aligned = head_aligns (ty_array (written E) 0) (tcons (ty_int w64) tnil)

  -- how many bytes the units of a chunk have
  pub chunk-bytes : (n : ℕ) → IsChunk (RL E) (RK E) (RV E) n → units n * u ≡ 16 + n * s
  chunk-bytes n is = units-times u s n is.1 is.2

module _ {M : Type 1} {𝓤 : Ura M} (𝓛 : Logic 𝓤) (E : Three) (b o n : ℕ) (is : IsChunk (RL E) (RK E) (RV E) n) where
  open 𝓛 use {H}

  abbrev h : ℕ
  h = 16 / u E

  abbrev k : ℕ
  k = s E / u E

  pub chunk_parts : ent 𝓤 (sem 𝓛 (room_for (chunk_type (RL E) (RK E) (RV E) n) (block_ptr b o)))
      (sep 𝓤 (sem 𝓛 (parts_own (RL E) (RK E) (RV E) n (block_ptr b o)))
      (sem 𝓛 (fwand (parts_own (RL E) (RK E) (RV E) n (block_ptr b o)) (room_for (chunk_type (RL E) (RK E) (RV E) n) (block_ptr b o)))))
  chunk_parts =
      let at : ℕ = o + 16 in
      let τ : Ty = Unit_type E in
      let ν : Ty = ty_array (written E) n in
      let far : past τ h o ≡ at = past-times τ h o ∙ ap (λ (z : ℕ). o + z) is.1 in
      let some_nodes : n * s E ≡ n * k * u E = ap (λ (z : ℕ). n * z) (sym is.2) ∙ sym (mul_assoc n k (u E)) in
      let Front : SProp 𝓤 = H.room (ty_array τ h) b o in
      let Behind : SProp 𝓤 = H.room (ty_array τ (n * k)) b at in
      let Head : SProp 𝓤 = H.room head_type b o in
      let Nodes : SProp 𝓤 = H.room ν b at in
      qed 𝓛 (‵ (froom (bare (ty_array τ (units E n))) b o) ∷ []) ∵ as_written ! (ty_array τ (units E n)) b o $
      use1 𝓛 (‵ (froom (ty_array τ h) b o) ⊛ ‵ (froom (ty_array τ (n * k)) b (past τ h o))) (room_cut 𝓛 τ h (n * k) b o) $ split ! $
      rewrite ! 1 (λ (d : ℕ). ‵ (froom (ty_array τ (n * k)) b d)) far refl $
      use1 𝓛 (‵ (froom head_type b o) ⊛ raw (wand 𝓤 Head Front))
      (𝓛.laws.room_as (ty_array τ h) head_type b o (sym is.1) (head_aligned E)) $ split ! $ as_raw ! head_type b o $ move ! (2 ∷ []) $
      use1 𝓛 (‵ (froom ν b at) ⊛ raw (wand 𝓤 Nodes Behind))
      (𝓛.laws.room_as (ty_array τ (n * k)) ν b at some_nodes (node_aligned E)) $ split ! $ as_raw ! ν b at $
      -- [the nodes' memory; its way back; the head's; its way back]
      move ! (2 ∷ 0 ∷ []) $ fjoin ! $ frame ! $
      assume ! (‵ (parts_own (RL E) (RK E) (RV E) n (block_ptr b o))) $ fsplit ! $ as_written ! head_type b o $ move ! (0 ∷ 3 ∷ []) $
      use2 𝓛 (‵ (froom (ty_array τ h) b o)) (apply∗ 𝓤 Head Front) $ move ! (1 ∷ []) $ as_written ! ν b at $ move ! (0 ∷ 2 ∷ []) $
      use2 𝓛 (‵ (froom (ty_array τ (n * k)) b at)) (apply∗ 𝓤 Nodes Behind) $
      rewrite ! 0 (λ (d : ℕ). ‵ (froom (ty_array τ (n * k)) b d)) (sym far) refl $ move ! (1 ∷ 0 ∷ []) $
      use2 𝓛 (‵ (froom (ty_array τ (units E n)) b o)) (room_glue 𝓛 τ h (n * k) b o) $ as_raw ! (ty_array τ (units E n)) b o $ done !
