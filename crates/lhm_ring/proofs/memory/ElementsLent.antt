-- A `&` to elements is made where one to an element is. Assumes `Logic`.
use Rattle.lhm_ring.proofs.Names.{arith, elements_lent, elements_own, block_with_items, Shares-Array, Shares-less, Lends-false, Lends-first}
use Rattle.lhm_ring.proofs.Names.{[], array_of, type_size, has_block, full_share, RattleType, block_ptr, Lends-both, Lends-lies, Lends-said}
use Rattle.lhm_ring.proofs.Names.{length, subst, owns_if, is_live, ftrue, in_block, lies_at, null_ptr, room_for, nothing, lent_at, updating}
use Rattle.lhm_ring.proofs.Names.{Bool, List, refl, zero, Incl, fbor, fsep, Array, ◌+ₚ◌, said, Lends, done, drop, feq_i, fjoin, Logic, lfts}
use Rattle.lhm_ring.proofs.Names.{sym, ℕ, ◌*◌, ◌-◌, ◌<◌, ◌^◌, ◌∷◌, Fml, Lft, flt, sep, Ptr, Ura, !, now, qed, raw, ‵, ◌$◌, sem}
use denote.{ArrayMemory.Single, Param.Laws.Laws}

module _ {M : Type 1} {𝓤 : Ura M} (𝓛 : Logic 𝓤) (l : Lft) (R : RattleType) (L : Laws R) (within : Incl l R.lives) where
  open 𝓛 use {H, A}

  abbrev Held : Ptr → List R.Denot → Fml
  Held p xs = block_with_items (λ _ _. ftrue) R p (length xs) (length xs) xs

  abbrev Lent : Ptr → List R.Denot → Lft → Fml
  Lent p xs = lent_at (Array R (length xs)) p xs

  Lends-held : (p : Ptr) (xs : List R.Denot) → Lends 𝓛 (in_block p (owns_if (has_block (length xs)) (Held p xs))) (Lent p xs) l
  Lends-held null_ptr xs κ ts inc sp = Lends-false 𝓛 (Lent null_ptr xs) l κ ts inc sp
  Lends-held (block_ptr b o) [] κ ts inc sp =
      qed 𝓛 (‵ (fbor κ ftrue) ∷ raw (lfts 𝓛 ts) ∷ []) {P = H.⇛ (sep 𝓤 (sem 𝓛 (Lent (block_ptr b o) [] κ)) (lfts 𝓛 ts))} (
      updating ! $ drop ! $ nothing ! $ feq_i ! ℕ zero zero refl $ fjoin ! $ nothing ! $ fjoin ! $ now ! $ done !)
  Lends-held (block_ptr b o) (x ∷ xs) κ ts inc sp =
      let p : Ptr = block_ptr b o in let ys : List R.Denot = x ∷ xs in let n : ℕ = length ys in
      let some : 0 < n = omega arith in
      subst (λ (y : Bool). Lends 𝓛 (in_block p (owns_if y (Held p ys))) (Lent p ys) l) (sym (is_live n some))
      (Lends-first 𝓛 (lies_at (Array R n) full_share p ys) (fsep (room_for (array_of R (n - n)) (p +ₚ n * type_size R)) ftrue) (Lent p ys) l
      (Lends-lies 𝓛 (Array R n) l p ys
      (Shares-Array 𝓛 R (subst Single (sym L.one) tt) n l (Shares-less 𝓛 R R.lives l within (L.shares 𝓛)) ys)))
      κ ts inc sp

  pub Lends-elements : (p : Ptr) (xs : List R.Denot) → Lends 𝓛 (elements_own R p xs) (elements_lent R p xs) l
  Lends-elements p xs =
      let small : Fml = flt (length xs * type_size R) (2 ^ 63) in
      Lends-both 𝓛 small (in_block p (owns_if (has_block (length xs)) (Held p xs))) (said small) (Lent p xs) l
      (Lends-said 𝓛 small tt l) (Lends-held p xs)
