-- Nodes with the bodies of a run in them.
use Rattle.lhm_ring.proofs.Names.{Cell, IsApart, List, None, Option, Ptr, Some, [], arith, bodies_of, body_at, body_in, cell, change, cond}
use Rattle.lhm_ring.proofs.Names.{false, links_at, pointers, refl, same_ptr, subst, sym, true, with_bodies, with_body, without_body, ◌∙◌}
use Rattle.lhm_ring.proofs.Names.{◌∷◌, ◌≡◌}
use Rattle.lhm_ring.proofs.lists.Apart.{IsApart-tail, IsFresh, IsFresh-head, same_ptr-equal, same_ptr-reflexive, same_ptr-symmetric}
use Rattle.lhm_ring.proofs.rings.Rebodied.{body_at-rebodied, keys-rebodied, links_at-keys, pointers-rebodied}

module _ {B : Type 0} where
  body_in-without_body : (p : Ptr) (run : List (Ptr × Option B)) → body_in (without_body p run) p ≡ None
  unfolding body_in without_body
  body_in-without_body p [] = refl
  body_in-without_body p (c ∷ run) = grind (arith, body_in-without_body p run)

  body_in-without_body_other : (p q : Ptr) (run : List (Ptr × Option B)) → same_ptr p q ≡ false
      → body_in (without_body p run) q ≡ body_in run q
  unfolding body_in without_body
  body_in-without_body_other p q [] n = refl
  body_in-without_body_other p q (c ∷ run) n = grind (arith, same_ptr-equal, body_in-without_body_other p q run n)

module _ {L B : Type 0} where
  pub IsApart-with_bodies : (cs : List (Cell L B)) (run : List (Ptr × Option B)) → IsApart (pointers cs)
      → IsApart (pointers (with_bodies cs run))
  IsApart-with_bodies cs run = subst IsApart (sym (pointers-rebodied (λ p _. body_in run p) cs))

  pub links_at-with_bodies : (cs : List (Cell L B)) (run : List (Ptr × Option B)) (q : Ptr)
      → links_at (with_bodies cs run) q ≡ links_at cs q
  links_at-with_bodies cs run = links_at-keys cs (with_bodies cs run) (keys-rebodied (λ p _. body_in run p) cs)

  pub body_at-with_bodies : (cs : List (Cell L B)) (run : List (Ptr × Option B)) (q : Ptr) (l : L) → links_at cs q ≡ Some l
      → body_at (with_bodies cs run) q ≡ body_in run q
  body_at-with_bodies cs run = body_at-rebodied (λ p _. body_in run p) cs

  with_bodies-skip : (p : Ptr) (o : Option B) (run : List (Ptr × Option B)) (cs : List (Cell L B))
      → IsFresh p (pointers cs) → with_bodies cs ((p, o) ∷ run) ≡ with_bodies cs run
  unfolding body_in
  with_bodies-skip p o run [] f = refl
  with_bodies-skip p o run (c ∷ cs) f = λ i. cell c.at c.links (cond (f.0 i) o (body_in run c.at)) ∷ with_bodies-skip p o run cs f.1 i

  pub with_bodies-own : (cs : List (Cell L B)) → IsApart (pointers cs) → with_bodies cs (bodies_of cs) ≡ cs
  unfolding body_in
  with_bodies-own [] d = refl
  with_bodies-own (c ∷ cs) d =
      let on = with_bodies-skip c.at c.body (bodies_of cs) cs (IsFresh-head c.at (pointers cs) d)
      ∙ with_bodies-own cs (IsApart-tail c.at (pointers cs) d) in
      λ i. cell c.at c.links (cond (same_ptr-reflexive c.at i) c.body (body_in (bodies_of cs) c.at)) ∷ on i

  with_bodies-far : (p : Ptr) (run : List (Ptr × Option B)) (cs : List (Cell L B))
      → IsFresh p (pointers cs) → with_bodies cs (without_body p run) ≡ with_bodies cs run
  with_bodies-far p run [] f = refl
  with_bodies-far p run (c ∷ cs) f = λ i. cell c.at c.links (body_in-without_body_other p c.at run f.0 i) ∷ with_bodies-far p run cs f.1 i

  pub with_bodies-without_body : (p : Ptr) (run : List (Ptr × Option B)) (cs : List (Cell L B)) → IsApart (pointers cs)
      → with_bodies cs (without_body p run) ≡ with_body p None (with_bodies cs run)
  unfolding change
  with_bodies-without_body p run [] d = refl
  with_bodies-without_body p run (c ∷ cs) d =
      (elim (same_ptr c.at p) as (λ y. same_ptr c.at p ≡ y
      → with_bodies (c ∷ cs) (without_body p run) ≡ cond y
      (cell c.at c.links None ∷ with_bodies cs run)
      (cell c.at c.links (body_in run c.at) ∷ with_body p None (with_bodies cs run))) [
        | true ↦ grind (arith, same_ptr-equal, body_in-without_body, IsFresh-head, with_bodies-far)
        | false ↦ λ n. λ i. cell c.at c.links (body_in-without_body_other p c.at run
            (same_ptr-symmetric p c.at ∙ n) i) ∷ with_bodies-without_body p run cs
            (IsApart-tail c.at (pointers cs) d) i
      ]) refl
