-- The values that nodes hold, in the order in which the nodes are listed: they are lent, and others are written in their places.
use Rattle.lhm_ring.proofs.Names.{AtHeld, Cell, Ends, Held, IsHeld, IsOwned, Link, Links, List, None, Option, Ptr, Some, SplitAt, [], ap}
use Rattle.lhm_ring.proofs.Names.{arith, cell, content_of, contents, holders, map, one_of, pair, pointers, refl, ring_cells}
use Rattle.lhm_ring.proofs.Names.{set_held_values, subst, sym, unvalued, ℕ, ◌++◌, ◌∙◌, ◌∷◌, ◌≡◌}
use Rattle.lhm_ring.proofs.rings.{Contents.pointers_of, Rebodied.IsOwned-keys, Rebodied.keys}

module _ {K V : Type 0} where
  pub unvalued-set_held_values : (hs : List (Held (K × V))) (vs : List V) → map unvalued (set_held_values hs vs) ≡ map unvalued hs
  unvalued-set_held_values [] vs = refl
  unvalued-set_held_values (t ∷ hs) [] = refl
  unvalued-set_held_values (t ∷ hs) (v ∷ vs) = ap (λ us. unvalued t ∷ us) (unvalued-set_held_values hs vs)

  -- what is held at p is still held there if only values differ
  SplitAt-unvalued : (us xs : List (Held (K × V))) (t : Held (K × V)) (ys : List (Held (K × V)))
      → map unvalued us ≡ map unvalued (xs ++ t ∷ ys) → SplitAt unvalued us (unvalued t)
  SplitAt-unvalued [] [] t ys e = absurd cc
  SplitAt-unvalued [] (x ∷ xs) t ys e = absurd cc
  SplitAt-unvalued (u ∷ us) [] t ys e = let same : unvalued u ≡ unvalued t = cc in
      record { before = []; node = u; after = us; is = refl; at_is = same }
  SplitAt-unvalued (u ∷ us) (x ∷ xs) t ys e =
      let rest : map unvalued us ≡ map unvalued (xs ++ t ∷ ys) = cc in let on = SplitAt-unvalued us xs t ys rest in
      record { before = u ∷ on.before; node = on.node; after = on.after; is = ap (λ zs. u ∷ zs) on.is; at_is = on.at_is }

  pub IsHeld-unvalued : (us ts : List (Held (K × V))) (p : Ptr) → map unvalued us ≡ map unvalued ts → IsHeld ts p → IsHeld us p
  IsHeld-unvalued us ts p e h = let k = SplitAt-unvalued us h.before h.node h.after (e ∙ ap (map unvalued) h.is) in
      record { before = k.before; node = k.node; after = k.after; is = k.is; at_is = ap (λ z. z.at) k.at_is ∙ h.at_is }

  pub AtHeld-unvalued : (us ts : List (Held (K × V))) (p : Ptr) → map unvalued us ≡ map unvalued ts → (P : Held K → Type 0)
      → AtHeld us p (λ xs t ys. P (unvalued t)) → AtHeld ts p (λ xs t ys. P (unvalued t))
  AtHeld-unvalued us ts p e P a xs t ys q at = let k = SplitAt-unvalued us xs t ys (e ∙ ap (map unvalued) q) in
      subst P k.at_is (a k.before k.node k.after k.is (ap (λ z. z.at) k.at_is ∙ at))

  pointers_of-set_held_values : (hs : List (Held (K × V))) (vs : List V) → pointers_of (set_held_values hs vs) ≡ pointers_of hs
  pointers_of-set_held_values [] vs = refl
  pointers_of-set_held_values (t ∷ hs) [] = refl
  pointers_of-set_held_values (t ∷ hs) (v ∷ vs) = ap (λ ps. t.at ∷ ps) (pointers_of-set_held_values hs vs)

  set_held_values-none : (hs : List (Held (K × V))) → set_held_values hs [] ≡ hs
  set_held_values-none [] = refl
  set_held_values-none (t ∷ hs) = refl

  -- the values of what is held, each with the pointer of its node
  abbrev pub run_of : List (Held (K × V)) → List (Ptr × V)
  run_of = map (λ t. (t.at, t.pair.1))

  -- what a node holds once the values are written, and those that are left for the nodes behind it
  abbrev pub new_body : Option (K × V) → List V → Option (K × V)
  new_body None vs = None
  new_body (Some x) [] = Some x
  new_body (Some x) (v ∷ vs) = Some (pair x.0 v)

  abbrev pub left_over : Option (K × V) → List V → List V
  left_over None vs = vs
  left_over (Some x) [] = []
  left_over (Some x) (v ∷ vs) = vs

  -- the nodes with the values vs in order, as far as there are both
  abbrev pub written : List (Cell Links (K × V)) → List V → List (Cell Links (K × V))
  written [] vs = []
  written (c ∷ cs) vs = cell c.at c.links (new_body c.body vs) ∷ written cs (left_over c.body vs)

  pub pointers-written : (cs : List (Cell Links (K × V))) (vs : List V) → pointers (written cs vs) ≡ pointers cs
  pointers-written [] vs = refl
  pointers-written (c ∷ cs) vs = ap (λ ps. c.at ∷ ps) (pointers-written cs (left_over c.body vs))

  content-written : (p : Ptr) (l : Links) (b : Option (K × V)) (vs : List V) (r hs : List (Held (K × V)))
      → r ≡ set_held_values hs (left_over b vs)
      → one_of (content_of p (Some l) (new_body b vs)) ++ r ≡ set_held_values (one_of (content_of p (Some l) b) ++ hs) vs
  content-written p l b vs r hs e = grind (arith, set_held_values-none)

  pub contents-written : (cs : List (Cell Links (K × V))) (vs : List V) → contents (written cs vs) ≡ set_held_values (contents cs) vs
  unfolding contents
  contents-written [] vs = refl
  contents-written (c ∷ cs) vs = content-written c.at c.links c.body vs _ (contents cs) (contents-written cs (left_over c.body vs))

  holders-written : (cs : List (Cell Links (K × V))) (vs : List V) → holders (written cs vs) ≡ holders cs
  holders-written cs vs = ap pointers_of (contents-written cs vs) ∙ pointers_of-set_held_values (contents cs) vs

  keys-written : (cs : List (Cell Links (K × V))) (vs : List V) → keys (written cs vs) ≡ keys cs
  keys-written [] vs = refl
  keys-written (c ∷ cs) vs = ap (λ ks. (c.at, c.links) ∷ ks) (keys-written cs (left_over c.body vs))

  pub IsOwned-written : (a : Ends) (cs : List (Cell Links (K × V))) (vs : List V) {s : Link} {n m : ℕ}
      → IsOwned (ring_cells a cs) (holders cs) s n m → IsOwned (ring_cells a (written cs vs)) (holders (written cs vs)) s n m
  IsOwned-written a cs vs {s} {n} {m} ok = subst (λ ps. IsOwned (ring_cells a (written cs vs)) ps s n m) (sym (holders-written cs vs))
      (IsOwned-keys a cs (written cs vs) (keys-written cs vs) ok)
