-- What the owner of elements is by value, and where what it owns lies. Assumes `Logic`.
--     elements_known, elements_made      the owner is its one machine value, and what it owns
--     in_block-block      a pointer into a block, by its block and its place
use Rattle.lhm_ring.proofs.Names.{Goal, InBlock, Item, List, Logic, Ptr, RattleType, Seq, Struct, Ura, Val, [], block_of, block_ptr}
use Rattle.lhm_ring.proofs.Names.{count_of, drop, elements_own, emp, ent, feq_l, fpick, fsplit, makes_shadow, null_ptr, of_list, refl, sem}
use Rattle.lhm_ring.proofs.Names.{shape, vnil, vstruct, ‵, ◌$◌, ◌++◌, ◌∙◌, ◌∷◌, ◌≡◌}
use Rattle.lhm_ring.proofs.memory.NodeFields.{marker}
use Rattle.lhm_ring.specs.contracts.bucket_block.Elements as E-type

abbrev pub Owner : RattleType → RattleType
Owner = E-type.the_row

-- the field of `Elements`, which takes no bytes
abbrev pub Field : RattleType → RattleType
Field R = Struct (shape (E-type.the_type R))

pub elements_made : (R : RattleType) {M : Type 1} {𝓤 : Ura M} (𝓛 : Logic 𝓤)
    → ent 𝓤 (emp 𝓤) (sem 𝓛 ((Field R).own_val (record {}, tt) (marker ∷ [])))
elements_made R 𝓛 = makes_shadow 𝓛 ((Field R).own_val (record {}, tt) (marker ∷ []))
    (λ vss. (tt, ((λ uss. (tt, tt)), tt))) ((vstruct vnil ∷ [], tt), (refl, ((tt, (refl, tt)), tt)))

module _ {M : Type 1} {𝓤 : Ura M} {𝓛 : Logic 𝓤} {K : Type 0} {Γ : List (Item 𝓤)} {G : Goal 𝓤 𝓛.H} where
  pub elements_known : K → (R : RattleType) (e : (Owner R).Denot) (vs : List Val)
      → (vs ≡ marker ∷ [] → Seq K 𝓛 (‵ (elements_own R e.at e.items) ∷ Γ) G)
      → Seq K 𝓛 (‵ ((Owner R).own_val e vs) ∷ Γ) G
  elements_known t R e vs k = fsplit t $ fpick t
      (λ vss. fsplit t $ feq_l t
      (λ ev. fsplit t $ fpick t (λ uss. fsplit t $ feq_l t (λ em. drop t $ drop t $
      k (ev ∙ (λ i. vstruct (of_list (em i ++ [])) ∷ []))))))

pub in_block-block : (p : Ptr) → InBlock p → p ≡ block_ptr (block_of p) (count_of p)
in_block-block (block_ptr b o) t = refl
in_block-block null_ptr t = absurd t
