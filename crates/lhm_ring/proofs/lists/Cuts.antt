-- A list whose elements lie at pointers that are apart is cut at one of them in one way.
use Rattle.lhm_ring.proofs.Names.{IsApart, List, Ptr, [], arith, false, map, same_ptr, ◌++◌, ◌∷◌, ◌≡◌}
use Rattle.lhm_ring.proofs.lists.Apart.{IsApart-tail, IsFresh, IsFresh-head, same_ptr-reflexive}

module _ {X : Type 0} (place : X → Ptr) where
  pub same_ptr-fresh : (p : Ptr) (xs : List X) (t : X) (ys : List X) → IsFresh p (map place (xs ++ t ∷ ys)) → same_ptr p (place t) ≡ false
  same_ptr-fresh p [] t ys f = f.0
  same_ptr-fresh p (x ∷ xs) t ys f = same_ptr-fresh p xs t ys f.1

  pub not_again : (t : X) (hs us : List X) (v : X) (ws : List X) → IsApart (map place (t ∷ hs)) → hs ≡ us ++ v ∷ ws → place v ≡ place t → ⊥
  not_again t hs us v ws d e at = grind (arith, IsFresh-head, same_ptr-reflexive, same_ptr-fresh)

  pub cut_alone : {t v : X} (hs xs ys us ws : List X) → IsApart (map place hs) → hs ≡ xs ++ t ∷ ys → hs ≡ us ++ v ∷ ws
      → place t ≡ place v → (xs ≡ us) × ((t ≡ v) × (ys ≡ ws))
  cut_alone {t} {v} [] [] ys us ws d e f at = absurd (cc)
  cut_alone {t} {v} [] (x ∷ xs) ys us ws d e f at = absurd (cc)
  cut_alone {t} {v} (h ∷ hs) [] ys [] ws d e f at = (cc, (cc, cc))
  cut_alone {t} {v} (h ∷ hs) [] ys (u ∷ us) ws d e f at = grind (arith, not_again)
  cut_alone {t} {v} (h ∷ hs) (x ∷ xs) ys [] ws d e f at = grind (arith, not_again)
  cut_alone {t} {v} (h ∷ hs) (x ∷ xs) ys (u ∷ us) ws d e f at =
      let i = cut_alone {t = t} {v = v} hs xs ys us ws (IsApart-tail (place h) (map place hs) d) (cc) (cc) at in
      let same : x ≡ u = cc in (λ j. same j ∷ i.0 j, i.1)
