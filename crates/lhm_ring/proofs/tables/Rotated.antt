-- The first of some nodes, moved behind the others.
use Rattle.lhm_ring.proofs.Names.{Held, IsSome, List, Option, Position, Some, [], ap, append-nil, append_assoc, ap₂, arith, drop-length}
use Rattle.lhm_ring.proofs.Names.{drop_more, first_at, get_or, last_at, last_of, length, pointer_of, pointer_of_some, refl, sym, take}
use Rattle.lhm_ring.proofs.Names.{take-length, take_more, to_back_at, to_front_at, ℕ, ◌++◌, ◌+◌, ◌<◌, ◌∙◌, ◌∷◌, ◌≡◌}
use Rattle.lhm_ring.proofs.tables.Positions.{IsAt-split, remove-append, slice_get-append}
use Rattle.lhm_ring.{proofs.lists.Options.Some-injective, specs.Positions.IsAt}
use Rattle.std.proofs.Common.{drop}

-- the first n behind the others
abbrev pub rotated : {X : Type 0} → ℕ → List X → List X
rotated n xs = drop n xs ++ take n xs

pub rotated-none : {X : Type 0} (xs : List X) → xs ≡ rotated 0 xs
rotated-none xs = grind (arith, append-nil)

pub rotated-all : {X : Type 0} (xs : List X) → xs ≡ rotated (length xs) xs
rotated-all xs = sym (ap₂ (λ ys zs. ys ++ zs) (drop-length xs) (take-length xs))

-- one more, which is the first of all before and the last then
record Turn {X : Type 0} (n : ℕ) (xs : List X) : Type 0 where
  pub node : X
  pub others : List X
  pub first_is : rotated n xs ≡ node ∷ others
  pub last_is : rotated (n + 1) xs ≡ others ++ node ∷ []

turn : {X : Type 0} (n : ℕ) (xs : List X) → n < length xs → Turn n xs
turn n [] h = absurd (omega (arith, h))
turn n (x ∷ xs) h = record {
  node = get_or (x ∷ xs) n x;
  others = drop (n + 1) (x ∷ xs) ++ take n (x ∷ xs);
  first_is = ap (λ ys. ys ++ take n (x ∷ xs)) (drop_more (x ∷ xs) n x h);
  last_is = grind (arith, take_more, append_assoc);
}

last_of-push : {B : Type 0} (u : Held B) (hs : List (Held B)) (t : Held B) → last_of u (hs ++ t ∷ []) ≡ t.at
last_of-push u [] t = refl
last_of-push u (v ∷ hs) t = last_of-push v hs t

pub last_at-push : {B : Type 0} (hs : List (Held B)) (t : Held B) → last_at (hs ++ t ∷ []) ≡ Some t.at
last_at-push [] t = refl
last_at-push (u ∷ hs) t = ap Some (last_of-push u hs t)

module _ {K V : Type 0} {n : ℕ} (xs : List (Held (K × V))) (below : n < length xs) {hs : List (Held (K × V))} where
  -- the node at the front, with n of xs behind the others
  module _ (is : hs ≡ rotated n xs) (o : Option (Position K V)) (front : pointer_of_some o ≡ first_at hs) where
    at_front : pointer_of_some o ≡ Some (turn n xs below).node.at
    at_front = front ∙ ap first_at (is ∙ (turn n xs below).first_is)

    pub IsSome-front : IsSome o
    IsSome-front = grind (arith, at_front)

    module _ {at : Position K V} (found : o ≡ Some at) where
      -- it goes to the back
      pub rotated-more : {ks : List (Held (K × V))} → ((i : ℕ) → IsAt hs (pointer_of at) i → ks ≡ to_back_at hs i) → ks ≡ rotated (n + 1) xs
      rotated-more moved = let t = turn n xs below in let front = is ∙ t.first_is in
          moved 0 (IsAt-split [] t.node t.others front (Some-injective _ _ (sym at_front ∙ ap pointer_of_some found)))
          ∙ ap (λ ys. to_back_at ys 0) front ∙ sym t.last_is

  -- the node at the back, with one more of xs behind the others
  module _ {m : ℕ} (one : m ≡ n + 1) (is : hs ≡ rotated m xs) (o : Option (Position K V)) (back : pointer_of_some o ≡ last_at hs) where
    cut : hs ≡ (turn n xs below).others ++ (turn n xs below).node ∷ []
    cut = is ∙ ap (λ k. rotated k xs) one ∙ (turn n xs below).last_is

    at_back : pointer_of_some o ≡ Some (turn n xs below).node.at
    at_back = let t = turn n xs below in back ∙ ap last_at cut ∙ last_at-push t.others t.node

    pub IsSome-back : IsSome o
    IsSome-back = grind (arith, at_back)

    module _ {at : Position K V} (found : o ≡ Some at) where
      -- it goes to the front
      pub rotated-fewer : {ks : List (Held (K × V))} → ((i : ℕ) → IsAt hs (pointer_of at) i → ks ≡ to_front_at hs i) → ks ≡ rotated n xs
      rotated-fewer moved = let t = turn n xs below in
          moved (length t.others) (IsAt-split t.others t.node [] cut (Some-injective _ _ (sym at_back ∙ ap pointer_of_some found)))
          ∙ ap (λ ys. to_front_at ys (length t.others)) cut
          ∙ grind (arith, slice_get-append, remove-append, append-nil, t.first_is)
