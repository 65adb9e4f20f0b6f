-- What the ring's own changes leave of the index: a node put last, unlinked, moved, or its value
-- written.
use Rattle.lhm_ring.proofs.Names.{HasChains, Held, IsRearranged, List, Option, Ptr, PutsIn, Spot, [], ap, append-nil, arith, change_at}
use Rattle.lhm_ring.proofs.Names.{is_in, length, map-append, nil_from_length, refl, rekeyed, revalued, set_held_values, spot, spots, subst}
use Rattle.lhm_ring.proofs.Names.{sym, ◌++◌, ◌∙◌, ◌∷◌, ◌≡◌}
use Rattle.lhm_ring.proofs.{indexes.Spots.PutsIn-spots, lists.Rearranged.IsRearranged-filter, lists.Rearranged.length-IsRearranged}

-- the same spots in another order
pub HasChains-rearranged : (heads : List (Option Ptr)) (xs ys : List Spot) → IsRearranged xs ys → HasChains heads xs → HasChains heads ys
HasChains-rearranged heads xs ys r h = record {
  chains = λ b l.
      let c = h.chains b l in
      record { chain = c.chain; linked = c.linked; holds = λ p. c.holds p ∙ IsRearranged-filter (is_in (length heads) b) xs ys r p };
  none = λ z. nil_from_length ys (sym (length-IsRearranged xs ys r) ∙ ap length (h.none z));
}

-- moved to the back
pub PutsIn-last : {K V : Type 0} (others : List (Held (K × V))) (x : Held (K × V))
    → PutsIn (spot x) (spots others) (spots (others ++ x ∷ []))
PutsIn-last {K} {V} others x =
    subst (λ v. PutsIn (spot x) (spots v) (spots (others ++ x ∷ []))) (append-nil others) (PutsIn-spots others x [])

-- the value at p written
pub spots-value : {K V : Type 0} (p : Ptr) (w : V) (nodes : List (Held (K × V))) → spots (change_at p (revalued w) nodes) ≡ spots nodes
spots-value p w [] = refl
spots-value p w (x ∷ nodes) = grind (arith, spots-value p w nodes)

-- a key written
pub spots-rekeyed : {K V : Type 0} (k : K) (before : List (Held (K × V))) (x : Held (K × V))
    (after : List (Held (K × V))) → spots (before ++ rekeyed k x ∷ after) ≡ spots (before ++ x ∷ after)
spots-rekeyed k before x after = map-append spot before (rekeyed k x ∷ after) ∙ sym (map-append spot before (x ∷ after))

-- all values written
pub spots-values : {K V : Type 0} (nodes : List (Held (K × V))) (vs : List V) → spots (set_held_values nodes vs) ≡ spots nodes
spots-values [] vs = refl
spots-values (x ∷ nodes) [] = refl
spots-values (x ∷ nodes) (v ∷ vs) = ap (λ ss. spot x ∷ ss) (spots-values nodes vs)
