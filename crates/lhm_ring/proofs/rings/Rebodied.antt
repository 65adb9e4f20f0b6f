-- Nodes with other bodies, of another type perhaps: their links stay, and each body is what `f`
-- makes of the one before.
use Rattle.lhm_ring.proofs.Names.{Cell, Ends, IsOwned, Link, Links, List, Option, Ptr, Some, [], ap, body_at, body_of, cell, cell_at}
use Rattle.lhm_ring.proofs.Names.{change, cond, ends_links, false, length, length-map, links_at, links_of, map, null_ptr, pointers, refl}
use Rattle.lhm_ring.proofs.Names.{ring_cells, same_ptr, sym, true, with_body, ℕ, ◌∙◌, ◌∷◌, ◌≡◌}
use Rattle.lhm_ring.{proofs.lists.Apart.same_ptr-equal, specs.SameNodes.IsOwned-alike}

-- the pointers and links of nodes
abbrev pub keys : {L B : Type 0} → List (Cell L B) → List (Ptr × L)
keys = map (λ c. (c.at, c.links))

module _ {L B C : Type 0} where
  pub length-keys : (cs : List (Cell L B)) (ds : List (Cell L C)) → keys ds ≡ keys cs → length ds ≡ length cs
  length-keys cs ds e = sym (length-map ds (λ c. (c.at, c.links))) ∙ ap length e ∙ length-map cs (λ c. (c.at, c.links))

  pub links_at-keys : (cs : List (Cell L B)) (ds : List (Cell L C)) → keys ds ≡ keys cs → (q : Ptr) → links_at ds q ≡ links_at cs q
  unfolding cell_at
  links_at-keys [] [] e q = refl
  links_at-keys [] (d ∷ ds) e q = absurd cc
  links_at-keys (c ∷ cs) [] e q = absurd cc
  links_at-keys (c ∷ cs) (d ∷ ds) e q =
      let x : Ptr × L = (d.at, d.links) in let y : Ptr × L = (c.at, c.links) in let key : x ≡ y = cc in
      let others : keys ds ≡ keys cs = cc in
      ap (λ (k : Ptr × L). links_of (cond (same_ptr k.0 q) (Some d) (cell_at ds q))) key
      ∙ elim (same_ptr c.at q) as (λ y. links_of (cond y (Some d) (cell_at ds q)) ≡ links_of (cond y (Some c) (cell_at cs q))) [
        | true ↦ ap (λ (k : Ptr × L). Some k.1) key
        | false ↦ links_at-keys cs ds others q
      ]

pub keys-with_body : {L B : Type 0} (p : Ptr) (b : Option B) (cs : List (Cell L B)) → keys (with_body p b cs) ≡ keys cs
unfolding change
keys-with_body p b [] = refl
keys-with_body p b (c ∷ cs) =
    elim (same_ptr c.at p) as (λ y. keys (cond y (cell c.at c.links b ∷ cs) (c ∷ with_body p b cs)) ≡ keys (c ∷ cs)) [
      | true ↦ refl
      | false ↦ ap (λ ks. (c.at, c.links) ∷ ks) (keys-with_body p b cs)
    ]

pub links_at-with_body : {L B : Type 0} (p : Ptr) (b : Option B) (cs : List (Cell L B)) (q : Ptr)
    → links_at (with_body p b cs) q ≡ links_at cs q
links_at-with_body p b cs = links_at-keys cs (with_body p b cs) (keys-with_body p b cs)

-- a ring of such nodes
pub IsOwned-keys : {B C : Type 0} (e : Ends) (cs : List (Cell Links B)) (ds : List (Cell Links C)) → keys ds ≡ keys cs → {ps : List Ptr}
    {s : Link} {n m : ℕ} → IsOwned (ring_cells e cs) ps s n m → IsOwned (ring_cells e ds) ps s n m
IsOwned-keys e cs ds same =
    let all = ap (λ ks. (null_ptr, ends_links e) ∷ ks) same in
    IsOwned-alike (ring_cells e cs) (ring_cells e ds) (links_at-keys (ring_cells e cs) (ring_cells e ds) all)
    (length-keys (ring_cells e cs) (ring_cells e ds) all)

module _ {B C : Type 0} (f : Ptr → Option B → Option C) where
  module _ {L : Type 0} where
    abbrev pub rebodied : List (Cell L B) → List (Cell L C)
    rebodied = map (λ c. cell c.at c.links (f c.at c.body))

    pub keys-rebodied : (cs : List (Cell L B)) → keys (rebodied cs) ≡ keys cs
    keys-rebodied [] = refl
    keys-rebodied (c ∷ cs) = ap (λ ks. (c.at, c.links) ∷ ks) (keys-rebodied cs)

    pub pointers-rebodied : (cs : List (Cell L B)) → pointers (rebodied cs) ≡ pointers cs
    pointers-rebodied [] = refl
    pointers-rebodied (c ∷ cs) = ap (λ ps. c.at ∷ ps) (pointers-rebodied cs)

    pub body_at-rebodied : (cs : List (Cell L B)) (q : Ptr) (l : L) → links_at cs q ≡ Some l
        → body_at (rebodied cs) q ≡ f q (body_at cs q)
    unfolding cell_at
    body_at-rebodied [] q l e = absurd (cc)
    body_at-rebodied (c ∷ cs) q l e =
        (elim (same_ptr c.at q) as (λ y. same_ptr c.at q ≡ y → links_of (cond y (Some c) (cell_at cs q)) ≡ Some l
        → body_of (cond y (Some (cell c.at c.links (f c.at c.body))) (cell_at (rebodied cs) q))
        ≡ f q (body_of (cond y (Some c) (cell_at cs q)))) [
          | true ↦ λ t _. ap (λ p. f p c.body) (same_ptr-equal c.at q t)
          | false ↦ λ n h. body_at-rebodied cs q l h
        ]) refl e
