-- A place for a node is cut into its three fields, and made of them again. Assumes `Logic`.
use Rattle.lhm_ring.proofs.Names.{ !, Fml, Logic, Ptr, SProp, Sym, Ty, Tys, Ura, [], apply∗, as_raw, as_written, assume, block_ptr, by}
use Rattle.lhm_ring.proofs.Names.{done, ent, fields_own, fjoin3, froom, fsplit3, ftrue, fwand, group, keep, layout, move, node_type}
use Rattle.lhm_ring.proofs.Names.{nothing, qed, raw, room_for, rooms_at, sem, sep, split, split3, tcons, tnil, ty_struct, use1, use2, wand}
use Rattle.lhm_ring.proofs.Names.{‵, ℕ, ◌$◌, ◌+◌, ◌∵◌, ◌∷◌, ◌⊛◌}
use Rattle.lhm_ring.proofs.memory.NodeFields.{RK, RL, RV, Three, ko, lo, vo}
use Rattle.lhm_ring.specs.contracts.nodes.Node as N-type

module _ (E : Three) where
  -- the node's type as the code writes it, and as the allocator is asked for it
  abbrev pub written : Ty
  written = layout (N-type.the_row (RL E) (RK E) (RV E))

  abbrev pub block : Ty
  block = node_type (RL E) (RK E) (RV E)

  abbrev pub Rejoins : Ptr → Fml
  Rejoins p = fwand (fields_own (RL E) (RK E) (RV E) p) (room_for block p)

module _ (E : Three) {M : Type 1} {𝓤 : Ura M} (𝓛 : Logic 𝓤) (b o : ℕ) where
  open 𝓛 use {H}

  abbrev ν : Sym
  ν = (N-type.the_type (RL E) (RK E) (RV E)).name

  abbrev fields : Tys
  fields = tcons (layout E.links) (tcons (layout E.key) (tcons (layout E.value) tnil))

  abbrev Joins : SProp 𝓤
  Joins = wand 𝓤 (rooms_at 𝓤 H fields 0 b o) (H.room (ty_struct ν fields) b o)

  rejoins : ent 𝓤 Joins (sem 𝓛 (Rejoins E (block_ptr b o)))
  rejoins =
      qed 𝓛 (raw Joins ∷ []) ∵ assume ! (‵ (fields_own (RL E) (RK E) (RV E) (block_ptr b o))) $ fsplit3 ! $
      as_written ! (layout E.links) b (o + lo E) $ move ! (1 ∷ []) $ as_written ! (layout E.key) b
      (o + ko E) $ move ! (2 ∷ []) $ as_written ! (layout E.value) b (o + vo E) $ nothing ! $ move !
      (3 ∷ 2 ∷ 1 ∷ 0 ∷ []) $ group ! 4 $
      use2 𝓛 (‵ (froom (ty_struct ν fields) b o)) (apply∗ 𝓤 (rooms_at 𝓤 H fields 0 b o)
      (H.room (ty_struct ν fields) b o)) $ by ! (𝓛.laws.room-raw (ty_struct ν fields) b o)

  pub block_cut : ent 𝓤 (H.room (block E) b o)
      (sep 𝓤 (sem 𝓛 (fields_own (RL E) (RK E) (RV E) (block_ptr b o)))
      (sem 𝓛 (Rejoins E (block_ptr b o))))
  block_cut =
      qed 𝓛 (‵ (froom (block E) b o) ∷ []) ∵ as_written ! (ty_struct ν fields) b o $
      use1 𝓛 ((‵ (froom (layout E.links) b (o + lo E)) ⊛ ‵ (froom (layout E.key) b (o + ko E)) ⊛ ‵
      (froom (layout E.value) b (o + vo E)) ⊛ ‵ ftrue) ⊛ raw Joins)
      (𝓛.laws.room_fields ν fields b o) $ split ! $ split3 ! $ as_raw ! (layout E.links) b
      (o + lo E) $ move ! (1 ∷ []) $ as_raw ! (layout E.key) b (o + ko E) $ move ! (2 ∷ []) $ split
      ! $ as_raw ! (layout E.value) b (o + vo E) $ move ! (3 ∷ 2 ∷ 0 ∷ []) $ fjoin3 ! $
      move ! (2 ∷ []) $ use1 𝓛 (‵ (Rejoins E (block_ptr b o))) rejoins $ keep ! (1 ∷ 0 ∷ []) $ done !

  pub block_glue : ent 𝓤 (sep 𝓤 (sem 𝓛 (fields_own (RL E) (RK E) (RV E) (block_ptr b o)))
      (sem 𝓛 (Rejoins E (block_ptr b o)))) (H.room (block E) b o)
  block_glue = apply∗ 𝓤 (sem 𝓛 (fields_own (RL E) (RK E) (RV E) (block_ptr b o))) (H.room (block E) b o)
