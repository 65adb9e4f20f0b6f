-- An empty block by value, and a pointer. Assumes `Logic`.
use Rattle.lhm_ring.proofs.Names.{ !, Fml, Goal, Item, List, Logic, Model, Ptr, RattleType, SProp, Seq, Struct, T, Ura, Val, WT, [], arith}
use Rattle.lhm_ring.proofs.Names.{block_owns, block_ptr, by, drop, emp, ent, fact, fact_i, false, feq_l, fpick, froom, fsplit, fst∗}
use Rattle.lhm_ring.proofs.Names.{full_share, has_ty, keep, layout, lies_at, links_address, makes_shadow, move, never, never_e, null_ptr}
use Rattle.lhm_ring.proofs.Names.{of_list, part_at, pointers, ptr_val, qed, refl, room_for, same_ptr, sem, sep, shape, size, subst, tcons}
use Rattle.lhm_ring.proofs.Names.{tnil, true, ty_ptr, ty_struct, use1, vcons, via, vnil, vstruct, word, ‵, ℕ, ◌$◌, ◌++◌, ◌+◌, ◌<◌, ◌∙◌}
use Rattle.lhm_ring.proofs.memory.NodeFields.{Cells, Node, Pl, RK, RL, RV, Three, lo, value_known}
use Rattle.lhm_ring.proofs.{Names.◌∵◌, Names.◌∷◌, Names.◌≡◌, lists.Apart.IsFresh, lists.Apart.same_ptr-equal, memory.Steps.knows}
use Rattle.std.specs.declared.alloc.Allocator.{Ghosts}
use mir.Raw.{raw as bare}
use Rattle.lhm_ring.specs.contracts.nodes.Block as R-type

abbrev pub block_val : Ptr → Val
block_val p = vstruct (vcons (ptr_val p) (vcons (vstruct vnil) vnil))

pub block_Good : (p : Ptr) → T (has_ty (ty_struct [] (tcons ty_ptr (tcons (ty_struct [] tnil) tnil))) (block_val p)) × WT (block_val p)
block_Good (block_ptr b o) = (tt, (tt, (tt, tt)))
block_Good null_ptr = (tt, (record { fits = omega arith }, (tt, tt)))

pub pointer_made : {M : Type 1} {𝓤 : Ura M} (𝓛 : Logic 𝓤) (p : Ptr) → ent 𝓤 (emp 𝓤) (sem 𝓛 (Pl.own_val (record { ptr = p }) (word p ∷ [])))
pointer_made 𝓛 p = makes_shadow 𝓛 (Pl.own_val (record { ptr = p }) (word p ∷ []))
    (λ vss. (tt, (tt, tt))) ((ptr_val p ∷ [], tt), (refl, (refl, tt)))

module _ (T' Z : RattleType) (g : Ghosts Z.Denot) where
  abbrev pub BlockType : RattleType
  BlockType = R-type.the_row T' Z g

  abbrev pub BlockFields : RattleType
  BlockFields = Struct (shape (R-type.the_type T' Z g))

  pub block_made : {M : Type 1} {𝓤 : Ura M} (𝓛 : Logic 𝓤) (p : Ptr)
      → ent 𝓤 (emp 𝓤) (sem 𝓛 (BlockFields.own_val (p, (record {}, tt)) (block_val p ∷ [])))
  block_made 𝓛 p = makes_shadow 𝓛 (BlockFields.own_val (p, (record {}, tt)) (block_val p ∷ [])) (λ vss. (tt, (tt, ((λ uss. (tt, tt)), tt))))
      ((ptr_val p ∷ [], (vstruct vnil ∷ [], tt)), (refl, (refl, ((tt, (refl, tt)), tt))))

  module _ {M : Type 1} {𝓤 : Ura M} {𝓛 : Logic 𝓤} {K : Type 0} {Γ : List (Item 𝓤)} {G : Goal 𝓤 𝓛.H} where
    pub block_known : K → (r : BlockType.Denot) (vs : List Val)
        → (vs ≡ block_val r.ptr ∷ [] → Seq K 𝓛 (‵ (block_owns T' (g.dealloc_token r.alloc) r.ptr r.count) ∷ Γ) G)
        → Seq K 𝓛 (‵ (BlockType.own_val r vs) ∷ Γ) G
    block_known t r vs k = fsplit t $ fpick t
        (λ vss. fsplit t $ feq_l t
        (λ ev. fsplit t $ feq_l t
        (λ ep. fsplit t $ fpick t (λ uss. fsplit t $ feq_l t (λ em. drop t $ drop t $
        k (ev ∙ (λ i. vstruct (of_list (ep i ++ (em i ++ []))) ∷ [])))))))

-- uninitialised links that take space lie apart from every node
module _ {M : Type 1} {𝓤 : Ura M} (𝓛 : Logic 𝓤) (𝓜 : Model 𝓤 𝓛.H) (E : Three) (sized : 0 < size (layout E.links)) where
  abbrev New : Ptr → Fml
  New p = room_for (bare (layout E.links)) (links_address (RL E) (RK E) (RV E) p)

  clash : (p : Ptr) (x : E.links.Denot)
      → ent 𝓤 (sep 𝓤 (sem 𝓛 (New p)) (sem 𝓛 (lies_at (RL E) full_share (links_address (RL E) (RK E) (RV E) p) x))) (never 𝓤)
  clash (block_ptr b o) x = let at : ℕ = o + lo E in
      qed 𝓛 (‵ (froom (bare (layout E.links)) b at) ∷ ‵ (part_at (RL E) full_share x b at) ∷ []) ∵
      use1 𝓛 (‵ (froom (layout E.links) b at)) (𝓛.laws.raw-room (layout E.links) b at) $ move ! (1 ∷ []) $
      value_known 0 E.links E.links_laws x b at ! (λ v _. keep ! (2 ∷ 0 ∷ []) $
      by ! (𝓜.room_at (layout E.links) (layout E.links) b at at at full_share v (omega arith, omega arith) (omega arith, omega arith)))
  clash null_ptr x = fst∗ 𝓤 (never 𝓤) (never 𝓤)

  -- what cannot be owned at one pointer shows two
  differ : (p q : Ptr) (F : Ptr → SProp 𝓤) → ent 𝓤 (F p) (never 𝓤) → ent 𝓤 (F q) (fact 𝓤 (same_ptr p q ≡ false))
  differ p q F h = (elim (same_ptr p q) as (λ y. same_ptr p q ≡ y → ent 𝓤 (F q) (fact 𝓤 (same_ptr p q ≡ false))) [
    | true ↦ λ e. via 𝓤 (never 𝓤) (subst (λ r. ent 𝓤 (F r) (never 𝓤)) (same_ptr-equal p q e) h) (never_e 𝓤 _)
    | false ↦ λ e. fact_i 𝓤 (same_ptr p q ≡ false) (F q) e
  ]) refl

  pub fresh : (Z : Fml) (p : Ptr) (cs : List (Node E))
      → ent 𝓤 (sep 𝓤 (sem 𝓛 (New p)) (sem 𝓛 (Cells E Z cs))) (fact 𝓤 (IsFresh p (pointers cs)))
  fresh Z p [] = fact_i 𝓤 (IsFresh p []) _ tt
  fresh Z p (c ∷ cs) = qed 𝓛 (‵ (New p) ∷ ‵ (Cells E Z (c ∷ cs)) ∷ []) ∵ move ! (1 ∷ []) $ fsplit ! $ fsplit ! $ move ! (3 ∷ 0 ∷ []) $
      knows ! (same_ptr p c.at ≡ false)
      (differ p c.at (λ r. sep 𝓤 (sem 𝓛 (New p))
      (sem 𝓛 (lies_at (RL E) full_share (links_address (RL E) (RK E) (RV E) r) c.links)))
      (clash p c.links)) (λ here.
      move ! (0 ∷ 3 ∷ []) $ knows ! (IsFresh p (pointers cs)) (fresh Z p cs)
      (λ rest. by ! (fact_i 𝓤 (IsFresh p (c.at ∷ pointers cs)) _ (here, rest))))
