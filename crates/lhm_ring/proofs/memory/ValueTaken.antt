-- One value is taken from those that are lent. Assumes `Logic`.
use Rattle.lhm_ring.proofs.Names.{ !, List, Logic, Ptr, RattleType, Some, Ura, [], ap, block_ptr, by, cond, done, emp, ent, false, ffalse}
use Rattle.lhm_ring.proofs.Names.{fjoin, fsep, fsplit, full_share, keep, length, lies_at, map, mem, move, never_e, qed, raw, refl, rewrite}
use Rattle.lhm_ring.proofs.Names.{same_ptr, sem, sep, split, spread, sym, take, true, use1, use3, value_at, without_value, ‵, ℕ, ◌$◌, ◌++◌}
use Rattle.lhm_ring.proofs.Names.{◌∙◌, ◌∵◌, ◌∷◌, ◌≡◌, ◌⊛◌}
use Rattle.lhm_ring.proofs.lists.{Apart.same_ptr-equal, Options.Some-injective, Options.none_some, Splits.SplitAround}
use lib.ListN.{drop as drop_l}

module _ {V : Type 0} where
  pub record CutValue (cs : List (Ptr × V)) (p : Ptr) (v : V) : Type 0 where
    pub split : SplitAround cs (p, v)
    pub taken : without_value p cs ≡ split.before ++ split.after

  pub CutValue-some : (cs : List (Ptr × V)) (p : Ptr) (v : V) → value_at cs p ≡ Some v → CutValue cs p v
  unfolding value_at without_value
  CutValue-some [] p v e = absurd (none_some v e)
  CutValue-some (c ∷ cs) p v e =
      (elim (same_ptr c.0 p) as (λ y. same_ptr c.0 p ≡ y → CutValue (c ∷ cs) p v) [
        | true ↦ λ t. let at = same_ptr-equal c.0 p t in let held = Some-injective c.1 v
            (sym (ap (λ y. cond y (Some c.1) (value_at cs p)) t) ∙ e) in record {
              split = record { before = []; after = cs; is = λ i. (at i, held i) ∷ cs };
              taken = ap (λ y. cond y cs (c ∷ without_value p cs)) t;
            }
        | false ↦ λ t. let on = CutValue-some cs p v (sym (ap (λ y. cond y (Some c.1) (value_at cs p)) t) ∙ e) in record {
          split = record { before = c ∷ on.split.before; after = on.split.after; is = ap (λ xs. c ∷ xs) on.split.is };
          taken = ap (λ y. cond y cs (c ∷ without_value p cs)) t ∙ ap (λ xs. c ∷ xs) on.taken;
        }
      ]) refl

module _ {M : Type 1} {𝓤 : Ura M} (𝓛 : Logic 𝓤) (V : RattleType) (f : Ptr → Ptr) (p : Ptr) where
  abbrev Run : Type 0
  Run = List (Ptr × V.Denot)

  abbrev pub ats : Run → List Ptr
  ats = map (λ c. f c.0)

  abbrev pub ofs : Run → List V.Denot
  ofs = map (λ c. c.1)

  pub run_cut : (xs : Run) (y : V.Denot) (ys : Run)
      → ent 𝓤 (sem 𝓛 (spread V (ats (xs ++ (p, y) ∷ ys)) (ofs (xs ++ (p, y) ∷ ys))))
      (sep 𝓤 (sem 𝓛 (lies_at V full_share (f p) y))
      (sem 𝓛 (spread V (ats (xs ++ ys)) (ofs (xs ++ ys)))))
  run_cut [] y ys = qed 𝓛 (‵ (spread V (ats ((p, y) ∷ ys)) (ofs ((p, y) ∷ ys))) ∷ []) ∵ fsplit ! $ done !
  run_cut (x ∷ xs) y ys =
      qed 𝓛 (‵ (fsep (lies_at V full_share (f x.0) x.1) (spread V (ats (xs ++ (p, y) ∷ ys))
      (ofs (xs ++ (p, y) ∷ ys)))) ∷ []) ∵ fsplit ! $ move ! (1 ∷ []) $
      use1 𝓛 (‵ (lies_at V full_share (f p) y) ⊛ ‵ (spread V (ats (xs ++ ys)) (ofs (xs ++ ys))))
      (run_cut xs y ys) $ split ! $ move ! (2 ∷ 1 ∷ []) $ fjoin ! $ move ! (1 ∷ []) $ done !

  module _ {b o : ℕ} (e : f p ≡ block_ptr b o) where
    pub run_glue : (xs : Run) (y : V.Denot) (ys : Run) (w : V.Denot) (ws : List V.Denot)
        → ent 𝓤 (sep 𝓤 (sem 𝓛 ((mem V).own_at w b o)) (sep 𝓤 (sem 𝓛 (spread V (ats (xs ++ ys)) ws))
        (emp 𝓤))) (sem 𝓛 (spread V (ats (xs ++ (p, y) ∷ ys)) (take (length xs) ws ++ w ∷ drop_l
        (length xs) ws)))
    run_glue [] y ys w ws = qed 𝓛 (‵ (lies_at V full_share (block_ptr b o) w) ∷ ‵
        (spread V (ats ys) ws) ∷ raw (emp 𝓤) ∷ []) ∵ rewrite ! 0
        (λ (q : Ptr). ‵ (lies_at V full_share q w)) (sym e) refl $ fjoin ! $ keep ! (0 ∷ []) $ done
        !
    run_glue (x ∷ xs) y ys w [] = qed 𝓛 (‵ ((mem V).own_at w b o) ∷ ‵ ffalse ∷ raw (emp 𝓤) ∷ []) ∵ keep ! (1 ∷ []) $ by ! (never_e 𝓤 _)
    run_glue (x ∷ xs) y ys w (v ∷ ws) =
        qed 𝓛 (‵ ((mem V).own_at w b o) ∷ ‵ (fsep (lies_at V full_share (f x.0) v)
        (spread V (ats (xs ++ ys)) ws)) ∷ raw (emp 𝓤) ∷ []) ∵ move ! (1 ∷ []) $ fsplit ! $ move !
        (2 ∷ 1 ∷ 3 ∷ []) $
        use3 𝓛 (‵ (spread V (ats (xs ++ (p, y) ∷ ys)) (take (length xs) ws ++ w ∷ drop_l (length xs)
        ws))) (run_glue xs y ys w ws) $ move ! (1 ∷ []) $ fjoin ! $ done !
