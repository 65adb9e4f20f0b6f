-- Places are the same memory in any order. Assumes `Logic`.
use Rattle.lhm_ring.proofs.Names.{ !, AreBlocks, IsRearranged, List, Logic, Ptr, Ura, [], done, drop, ent, fjoin, fsplit, is_block, move}
use Rattle.lhm_ring.proofs.Names.{nothing, qed, same_ptr, sem, split, true, use1, use2, ‵, ◌$◌, ◌++◌, ◌∵◌, ◌∷◌, ◌≡◌, ◌⊛◌}
use Rattle.lhm_ring.proofs.lists.Rearranged.{AllByRecursion-IsRearranged, IsRearranged-elim}
use Rattle.lhm_ring.proofs.memory.ChunkPlaces.{Places, places_cut, places_glue}
use Rattle.lhm_ring.proofs.{lists.Apart.same_ptr-equal, lists.Apart.same_ptr-reflexive, memory.NodeFields.Three}

pub AreBlocks-IsRearranged : (ps qs : List Ptr) → IsRearranged ps qs → AreBlocks ps → AreBlocks qs
AreBlocks-IsRearranged = AllByRecursion-IsRearranged same_ptr same_ptr-equal same_ptr-reflexive (λ p. is_block p ≡ true)

pub places_rearranged : {M : Type 1} {𝓤 : Ura M} (𝓛 : Logic 𝓤) (E : Three) (ps qs : List Ptr) → IsRearranged ps qs
    → ent 𝓤 (sem 𝓛 (Places 𝓛 E ps)) (sem 𝓛 (Places 𝓛 E qs))
places_rearranged {𝓤 = 𝓤} 𝓛 E = IsRearranged-elim same_ptr same_ptr-equal same_ptr-reflexive
    (λ ps qs. ent 𝓤 (sem 𝓛 (Places 𝓛 E ps)) (sem 𝓛 (Places 𝓛 E qs)))
    (λ ps. qed 𝓛 (‵ (Places 𝓛 E ps) ∷ []) ∵ drop ! $ nothing ! $ done !)
    (λ us q vs qs i. qed 𝓛 (‵ (Places 𝓛 E (us ++ q ∷ vs)) ∷ []) ∵
    use1 𝓛 (‵ (Places 𝓛 E us) ⊛ ‵ (Places 𝓛 E (q ∷ vs))) (places_cut 𝓛 E us (q ∷ vs)) $ split ! $ move ! (1 ∷ []) $ fsplit ! $
    move ! (2 ∷ 1 ∷ []) $ use2 𝓛 (‵ (Places 𝓛 E (us ++ vs))) (places_glue 𝓛 E us vs) $ use1 𝓛 (‵ (Places 𝓛 E qs)) i $
    move ! (1 ∷ 0 ∷ []) $ fjoin ! $ done !)
