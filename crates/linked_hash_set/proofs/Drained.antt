-- Runs of a `Drain`.
use Rattle.std.proofs.Common.{◌≡◌, [], ◌∷◌, length, Option, sym, ap, ◌∙◌}
use Rattle.std.specs.Iterator.Runs.{YieldsInOrder, YieldsInReverse}
use Rattle.std.proofs.iter.runs.Sources.{from_front, from_back, as_is, as_is_back}
use Rattle.linked_hash_set.specs.Drains.{drain_rest, drain_name, DrainSteps, DrainStepsBack, DrainKeepsAlong}
use Rattle.linked_hash_set.specs.declared.drain.Drain.{Drain}

module _ {T : Type 0} where
  pub drains_in_order : YieldsInOrder (DrainSteps {T = T}) drain_rest
  drains_in_order p s = as_is p (drain_rest p.from) (from_front DrainSteps (λ item. item) drain_rest
      (λ s t h. ap length h.0.0) (λ s x t h. h.0) p s)

  pub drains_in_reverse : YieldsInReverse (DrainStepsBack {T = T}) drain_rest
  drains_in_reverse p s = as_is_back p (drain_rest p.from) (from_back DrainStepsBack (λ item. item)
      drain_rest (λ s t h. ap length h.0.0) (λ s x t h. h.0) p s)

  module _ (steps : Drain T → Option T → Drain T → Type 0) (keeps : (s t : Drain T) (r : Option T)
      → steps s r t → drain_name t ≡ drain_name s) where
    along : (d : Drain T) → DrainKeepsAlong steps d
    along d [] t y = ap drain_name (sym y)
    along d (x ∷ xs) t y = along y.0 xs t y.2 ∙ keeps d y.0 _ y.1

  -- steps end the same borrow
  pub stays : (d : Drain T) → DrainKeepsAlong DrainSteps d
  stays = along DrainSteps (λ s t r h. h.1)

  pub stays_back : (d : Drain T) → DrainKeepsAlong DrainStepsBack d
  stays_back = along DrainStepsBack (λ s t r h. h.1)
