-- The memory of a block is split into that of heads and that of words, and joined again. Assumes `Logic`.
use Rattle.lhm_ring.proofs.Names.{ !, El, Logic, RattleType, SProp, Ty, Ura, [], apply∗, arith, array_of, as_raw, as_written, assume}
use Rattle.lhm_ring.proofs.Names.{block_ptr, done, ent, fjoin, frame, froom, fsplit, fwand, glued, layout, move, parts_own, qed, raw, refl}
use Rattle.lhm_ring.proofs.Names.{room_for, room_split, sem, sep, split, ty_array, use1, use2, wand, ‵, ℕ, ◌$◌, ◌*◌, ◌+◌, ◌-◌, ◌∵◌, ◌∷◌}
use Rattle.lhm_ring.proofs.{Names.◌≡◌, Names.◌≤◌, Names.◌⊛◌, memory.Lodging.element}
use denote.Param.Laws.{Laws}
use Rattle.lhm_ring.specs.contracts.bucket_block.{Head.the_row as head, Word.the_row as word}
use mir.Raw.{raw as bare}
use Rattle.lhm_ring.proofs.bucket_block.Head.TheLaws as head-laws
use Rattle.lhm_ring.proofs.bucket_block.Word.TheLaws as word-laws

-- the same with no name in their machine types, as a call of a generic function has them
abbrev unnamed : RattleType → RattleType
unnamed R = record R { mir = bare (layout R) ∷ [] }

abbrev pub head₀ : RattleType
head₀ = unnamed head

pub head₀-laws : Laws head₀
head₀-laws = let L = head-laws.the_row_laws in record {
  one = refl;
  single = L.single;
  lawful = λ 𝓛. record { typed = (L.lawful 𝓛).typed };
  drops = λ 𝓛. L.drops 𝓛;
  shares = λ 𝓛. L.shares 𝓛;
  shr_laws = L.shr_laws;
}

abbrev pub word₀ : RattleType
word₀ = unnamed word

pub word₀-laws : Laws word₀
word₀-laws = let L = word-laws.the_row_laws in record {
  one = refl;
  single = L.single;
  lawful = λ 𝓛. record { typed = (L.lawful 𝓛).typed };
  drops = λ 𝓛. L.drops 𝓛;
  shares = λ 𝓛. L.shares 𝓛;
  shr_laws = L.shr_laws;
}

abbrev pub heads : Ty
heads = layout head

abbrev pub words : Ty
words = layout word

abbrev of_heads : El
of_heads = element head head-laws.the_row_laws

abbrev of_words : El
of_words = element word word-laws.the_row_laws

-- room for k heads is room for n heads, for n words behind them, and the rest, which joins them again
module _ {M : Type 1} {𝓤 : Ura M} (𝓛 : Logic 𝓤) (b o n k : ℕ) (le : n ≤ k) (fits : n ≤ 4 * (k - n)) where
  open 𝓛 use {H}

  pub block_parts : ent 𝓤 (sem 𝓛 (room_for (array_of head k) (block_ptr b o)))
      (sep 𝓤 (sem 𝓛 (parts_own (block_ptr b o) n))
      (sem 𝓛 (fwand (parts_own (block_ptr b o) n) (room_for (array_of head k) (block_ptr b o)))))
  block_parts =
      let at : ℕ = o + n * 8 in
      let m : ℕ = 4 * (k - n) in
      let after : ℕ = at + n * 2 in
      let Behind : SProp 𝓤 = H.room (ty_array heads (k - n)) b at in
      let All : SProp 𝓤 = H.room (ty_array words m) b at in
      let same : m * 2 ≡ (k - n) * 8 = omega arith in
      let both : n + (k - n) ≡ k = omega (arith, le) in
      let all : n + (m - n) ≡ m = omega (arith, fits) in
      qed 𝓛 (‵ (froom (array_of head k) b o) ∷ []) ∵ as_written ! (ty_array heads k) b o $
      use1 𝓛 (‵ (froom (ty_array heads n) b o) ⊛ ‵ (froom (ty_array heads (k - n)) b at))
      (room_split of_heads 𝓛 n k b o le) $ split ! $ move ! (1 ∷ []) $
      use1 𝓛 (‵ (froom (ty_array words m) b at) ⊛ raw (wand 𝓤 All Behind))
      (𝓛.laws.room_as (ty_array heads (k - n)) (ty_array words m) b at same tt) $ split ! $
      use1 𝓛 (‵ (froom (ty_array words n) b at) ⊛ ‵ (froom (ty_array words (m - n)) b after))
      (room_split of_words 𝓛 n m b at fits) $ split ! $
      -- [the words; the rest; that these join; the heads]
      as_raw ! (ty_array words n) b at $ move ! (3 ∷ []) $ as_raw ! (ty_array heads n) b o $
      move ! (0 ∷ 1 ∷ []) $ fjoin ! $ move ! (0 ∷ 1 ∷ 2 ∷ []) $ frame ! $
      assume ! (‵ (parts_own (block_ptr b o) n)) $ fsplit ! $ as_written ! (ty_array heads n) b o $
      move ! (1 ∷ []) $ as_written ! (ty_array words n) b at $ move ! (0 ∷ 2 ∷ []) $
      use2 𝓛 (‵ (froom (ty_array words m) b at)) (glued of_words 𝓛 n (m - n) m b at all) $ move ! (0 ∷ 2 ∷ []) $
      use2 𝓛 (‵ (froom (ty_array heads (k - n)) b at)) (apply∗ 𝓤 All Behind) $ move ! (1 ∷ 0 ∷ []) $
      use2 𝓛 (‵ (froom (ty_array heads k) b o)) (glued of_heads 𝓛 n (k - n) k b o both) $
      as_raw ! (ty_array heads k) b o $ done !
