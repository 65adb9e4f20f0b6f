-- Runs of a `Drain`, and what is left of one.
use Rattle.linked_hash_map.proofs.Names.{List, Option, [], ap, length, map, sym, ℕ, ◌∙◌, ◌∷◌, ◌≡◌, Held, triples, DrainKeepsAlong}
use Rattle.linked_hash_map.proofs.Names.{DrainSteps, DrainStepsBack, drain_name, drain_rest, pairs_of, Drain, as_is, as_is_back, from_back}
use Rattle.linked_hash_map.proofs.{Names.from_front, Names.YieldsInOrder, Names.YieldsInReverse, nodes.HeldPairs.pairs-triples}

module _ {K V : Type 0} where
  pub drains_in_order : YieldsInOrder (DrainSteps {K = K} {V = V}) drain_rest
  drains_in_order p s = as_is p (drain_rest p.from) (from_front DrainSteps (λ pair. pair) drain_rest
      (λ s t h. ap length h.0.0) (λ s x t h. h.0) p s)

  pub drains_in_reverse : YieldsInReverse (DrainStepsBack {K = K} {V = V}) drain_rest
  drains_in_reverse p s = as_is_back p (drain_rest p.from) (from_back DrainStepsBack (λ pair. pair)
      drain_rest (λ s t h. ap length h.0.0) (λ s x t h. h.0) p s)

  module _ (steps : Drain K V → Option (K × V) → Drain K V → Type 0) (keeps : (s t : Drain K V)
      (r : Option (K × V)) → steps s r t → drain_name t ≡ drain_name s) where
    along : (d : Drain K V) → DrainKeepsAlong steps d
    along d [] t y = ap drain_name (sym y)
    along d (x ∷ xs) t y = along y.0 xs t y.2 ∙ keeps d y.0 _ y.1

  -- steps end the same borrow
  pub stays : (d : Drain K V) → DrainKeepsAlong DrainSteps d
  stays = along DrainSteps (λ s t r h. h.1)

  pub stays_back : (d : Drain K V) → DrainKeepsAlong DrainStepsBack d
  stays_back = along DrainStepsBack (λ s t r h. h.1)

-- what is left of a `Drain` that was made of a table
pub rest_drained : {K V : Type 0} (d : Drain K V) (ts : List (ℕ × (K × V))) (hs : List (Held (K × V))) → drain_rest d ≡ map (λ t. t.1) ts
    → ts ≡ triples hs → drain_rest d ≡ pairs_of hs
rest_drained d ts hs rest e = rest ∙ ap (map (λ t. t.1)) e ∙ pairs-triples hs
