-- What a closure returns at a call, and at those after it.
use Rattle.lhm_ring.proofs.Names.{[], ◌∷◌}
use Rattle.std.specs.Fn.{AlwaysReturns, Called, Mut}

module _ {F X R : Type 0} (g : Mut F X R) (P : X → R → Type 0) where
  pub AlwaysReturns-called : (f : F) (a : X) (r : R) (f' : F) → Called g f a r f' → AlwaysReturns g P f → P a r × AlwaysReturns g P f'
  AlwaysReturns-called f a r f' c h = ((h.at (a ∷ []) r f' c).0, record { at = λ xs. (h.at (a ∷ xs) r f' c).1 })
