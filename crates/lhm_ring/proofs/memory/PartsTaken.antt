-- A part of each node is taken out of the nodes, and put back. Assumes `Logic`.
use Rattle.lhm_ring.proofs.Names.{ !, Cell, Fml, List, Logic, RattleType, Ura, [], cell_owns, cells_own, done, drop, emp, ent, fjoin, fsep}
use Rattle.lhm_ring.proofs.Names.{fsplit, map, move, qed, sem, split, use0, use1, use2, ‵, ◌$◌, ◌∵◌, ◌∷◌, ◌⊛◌}
use Rattle.lhm_ring.proofs.memory.Sharing.{parts_own}

module _ {M : Type 1} {𝓤 : Ura M} (𝓛 : Logic 𝓤) where
  -- what F owns is what G does
  abbrev pub Entails : Fml → Fml → Type 1
  Entails F G = ent 𝓤 (sem 𝓛 F) (sem 𝓛 G)

infixr 35 ◌∗◌
abbrev pub ◌∗◌ : Fml → Fml → Fml
P ∗ Q = fsep P Q

-- f is what is left of a node, A what all of them give
module _ (R S W : RattleType) {M : Type 1} {𝓤 : Ura M} (𝓛 : Logic 𝓤)
    (f : Cell R.Denot (S.Denot × W.Denot) → Fml) (A : List (Cell R.Denot (S.Denot × W.Denot))
    → Fml) where
  abbrev Node : Type 0
  Node = Cell R.Denot (S.Denot × W.Denot)

  pub parts_cut : ent 𝓤 (emp 𝓤) (sem 𝓛 (A [])) → ((c : Node) (cs : List Node) → Entails 𝓛 (cell_owns R S W c ∗ A cs) (A (c ∷ cs) ∗ f c))
      → (Z : Fml) (cs : List Node) → Entails 𝓛 (cells_own R S W Z cs) (A cs ∗ parts_own f Z cs)
  parts_cut none one Z [] = qed 𝓛 (‵ Z ∷ []) ∵ use0 𝓛 (‵ (A [])) none $ done !
  parts_cut none one Z (c ∷ cs) = qed 𝓛 (‵ (cells_own R S W Z (c ∷ cs)) ∷ []) ∵ fsplit ! $ move ! (1 ∷ []) $
      use1 𝓛 (‵ (A cs) ⊛ ‵ (parts_own f Z cs)) (parts_cut none one Z cs) $ split ! $ move ! (2 ∷ 0 ∷ []) $
      use2 𝓛 (‵ (A (c ∷ cs)) ⊛ ‵ (f c)) (one c cs) $ split ! $ move ! (1 ∷ 2 ∷ []) $ fjoin ! $ move ! (1 ∷ 0 ∷ []) $ done !

  pub parts_glue : (g : Node → Node) → ((c : Node) (cs : List Node) → Entails 𝓛 (A (c ∷ cs) ∗ f c) (A cs ∗ cell_owns R S W (g c)))
      → (Z : Fml) (cs : List Node) → Entails 𝓛 (A cs ∗ parts_own f Z cs) (cells_own R S W Z (map g cs))
  parts_glue g one Z [] = qed 𝓛 (‵ (A []) ∷ ‵ Z ∷ []) ∵ drop ! $ done !
  parts_glue g one Z (c ∷ cs) = qed 𝓛 (‵ (A (c ∷ cs)) ∷ ‵ (parts_own f Z (c ∷ cs)) ∷ []) ∵ move ! (1 ∷ []) $ fsplit ! $
      move ! (2 ∷ 0 ∷ []) $
      use2 𝓛 (‵ (A cs) ⊛ ‵ (cell_owns R S W (g c))) (one c cs) $ split ! $ move ! (0 ∷ 2 ∷ []) $
      use2 𝓛 (‵ (cells_own R S W Z (map g cs))) (parts_glue g one Z cs) $ move ! (1 ∷ 0 ∷ []) $ fjoin ! $ done !
