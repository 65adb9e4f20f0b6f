-- What one node holds is moved out of what is lent. Assumes `Logic`.
use Rattle.lhm_ring.proofs.Names.{ !, Fml, List, Logic, None, Option, Ptr, Some, Ura, [], ap, bodies, body_in, body_owns, cond, done, ent}
use Rattle.lhm_ring.proofs.Names.{false, firsts, fjoin, fsplit, id⊢, move, qed, refl, same_ptr, seconds, sem, sep, split, sym, true, use1}
use Rattle.lhm_ring.proofs.Names.{use2, without_body, ‵, ◌$◌, ◌++◌, ◌∙◌, ◌∵◌, ◌∷◌, ◌≡◌, ◌⊛◌}
use Rattle.lhm_ring.proofs.lists.{Apart.same_ptr-equal, Options.none_some, Splits.SplitAround}
use Rattle.lhm_ring.proofs.memory.NodeFields.{RK, RL, RV, Three}

module _ {B : Type 0} where
  pub record CutBody (cs : List (Ptr × Option B)) (p : Ptr) (x : B) : Type 0 where
    pub split : SplitAround cs (p, Some x)
    pub taken : without_body p cs ≡ split.before ++ (p, None) ∷ split.after

  pub CutBody-some : (cs : List (Ptr × Option B)) (p : Ptr) (x : B) → body_in cs p ≡ Some x → CutBody cs p x
  unfolding body_in without_body
  CutBody-some [] p x e = absurd (none_some x e)
  CutBody-some (c ∷ cs) p x e =
      (elim (same_ptr c.0 p) as (λ y. same_ptr c.0 p ≡ y → CutBody (c ∷ cs) p x) [
        | true ↦ λ t. let at = same_ptr-equal c.0 p t in let held = sym (ap (λ y. cond y c.1 (body_in cs p)) t) ∙ e in record {
          split = record { before = []; after = cs; is = λ i. (at i, held i) ∷ cs };
          taken = ap (λ y. cond y ((c.0, None) ∷ cs) (c ∷ without_body p cs)) t ∙ ap (λ q. (q, None) ∷ cs) at;
        }
        | false ↦ λ t. let on = CutBody-some cs p x (sym (ap (λ y. cond y c.1 (body_in cs p)) t) ∙ e) in record {
          split = record { before = c ∷ on.split.before; after = on.split.after; is = ap (λ xs. c ∷ xs) on.split.is };
          taken = ap (λ y. cond y ((c.0, None) ∷ cs) (c ∷ without_body p cs)) t ∙ ap (λ xs. c ∷ xs) on.taken;
        }
      ]) refl

  pub firsts-same : (xs : List (Ptr × Option B)) (p : Ptr) (o u : Option B)
      (ys : List (Ptr × Option B)) → firsts (xs ++ (p, o) ∷ ys) ≡ firsts (xs ++ (p, u) ∷ ys)
  firsts-same [] p o u ys = refl
  firsts-same (x ∷ xs) p o u ys = ap (λ ps. x.0 ∷ ps) (firsts-same xs p o u ys)

module _ (E : Three) {M : Type 1} {𝓤 : Ura M} (𝓛 : Logic 𝓤) where
  abbrev Content : Type 0
  Content = Option (E.key.Denot × E.value.Denot)

  abbrev Body : Ptr → Content → Fml
  Body p o = body_owns (RL E) (RK E) (RV E) p o

  abbrev pub Run : List (Ptr × Content) → Fml
  Run cs = bodies (RL E) (RK E) (RV E) (firsts cs) (seconds cs)

  pub bodies_cut : (xs : List (Ptr × Content)) (p : Ptr) (o : Content) (ys : List (Ptr × Content))
      → ent 𝓤 (sem 𝓛 (Run (xs ++ (p, o) ∷ ys))) (sep 𝓤 (sem 𝓛 (Body p o)) (sem 𝓛 (Run (xs ++ ys))))
  bodies_cut [] p o ys = id⊢ 𝓤 _
  bodies_cut (x ∷ xs) p o ys = qed 𝓛 (‵ (Run (x ∷ xs ++ (p, o) ∷ ys)) ∷ []) ∵ fsplit ! $ move ! (1 ∷ []) $
      use1 𝓛 (‵ (Body p o) ⊛ ‵ (Run (xs ++ ys))) (bodies_cut xs p o ys) $ split ! $ move ! (2 ∷ 1 ∷ []) $ fjoin ! $ move ! (1 ∷ []) $ done !

  pub bodies_glue : (xs : List (Ptr × Content)) (p : Ptr) (o : Content) (ys : List (Ptr × Content))
      → ent 𝓤 (sep 𝓤 (sem 𝓛 (Body p o)) (sem 𝓛 (Run (xs ++ ys)))) (sem 𝓛 (Run (xs ++ (p, o) ∷ ys)))
  bodies_glue [] p o ys = id⊢ 𝓤 _
  bodies_glue (x ∷ xs) p o ys = qed 𝓛 (‵ (Body p o) ∷ ‵ (Run (x ∷ xs ++ ys)) ∷ []) ∵ move ! (1 ∷ []) $ fsplit ! $ move ! (2 ∷ 1 ∷ []) $
      use2 𝓛 (‵ (Run (xs ++ (p, o) ∷ ys))) (bodies_glue xs p o ys) $ move ! (1 ∷ 0 ∷ []) $ fjoin ! $ done !
