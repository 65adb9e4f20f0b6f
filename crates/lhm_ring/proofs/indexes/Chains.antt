-- One chain of spots, once a node is put on it or removed.
use Rattle.lhm_ring.proofs.Names.{IsChain, List, None, Option, Ptr, Some, Spot, [], ap, refl, sym, ◌++◌, ◌∙◌, ◌∷◌, ◌≡◌}
use Rattle.lhm_ring.proofs.lists.Splits.{SplitFirst}

abbrev pub ChainFirst : List Spot → Ptr → Type 0
ChainFirst = SplitFirst (λ s. s.at)

pub ChainFirst-some : {h : Option Ptr} (p : Ptr) (rest : List Spot) → h ≡ Some p → IsChain h rest → ChainFirst rest p
ChainFirst-some p [] e h = absurd cc
ChainFirst-some p (s ∷ rest) e h = let f = h.0 in record { node = s; after = rest; is = refl; at_is = cc }

pub IsChain-tail : (h : Option Ptr) (us : List Spot) (s : Spot) (vs : List Spot) → IsChain h (us ++ s ∷ vs) → IsChain s.link vs
IsChain-tail h [] s vs c = c.1
IsChain-tail h (u ∷ us) s vs c = IsChain-tail u.link us s vs c.1

pub none-IsChain : {h : Option Ptr} (rest : List Spot) → h ≡ None → IsChain h rest → rest ≡ []
none-IsChain [] e h = refl
none-IsChain (s ∷ rest) e h = let f = h.0 in absurd cc

-- a spot, and what comes after it, is replaced
pub IsChain-changed : (h : Option Ptr) (us : List Spot) (s t : Spot) (vs ws : List Spot) → t.at ≡ s.at → IsChain t.link ws
    → IsChain h (us ++ s ∷ vs) → IsChain h (us ++ t ∷ ws)
IsChain-changed h [] s t vs ws a l c = (c.0 ∙ ap Some (sym a), l)
IsChain-changed h (u ∷ us) s t vs ws a l c = (c.0, IsChain-changed u.link us s t vs ws a l c.1)
