-- The pairs from that of a node on: what an iterator that begins at a pair has left.
use Rattle.linked_hash_map.proofs.Names.{Bool, IsTrue, List, None, Option, Some, [], ap, append_assoc, arith, drop, length, length-append}
use Rattle.linked_hash_map.proofs.Names.{length-drop, length-take, map, refl, reverse, slice_get, subst, sym, take, ℕ, ◌++◌, ◌+◌, ◌∙◌, ◌∷◌}
use Rattle.linked_hash_map.proofs.Names.{◌≡◌, ◌≤◌, Last-last_at, none-last_at, IsAt-index_of, IsAt-split, IsAt-within, cut_at, drop-from}
use Rattle.linked_hash_map.proofs.Names.{index_of-held, take-through, IsApart, pointer_of, pointer_of_some, IsAt, PlaceAt, index_of, AtHeld}
use Rattle.linked_hash_map.proofs.Names.{Held, IsHeld, last_at, HasKey, Position, Lies, pairs_back_from, pairs_from, pairs_of, from_first}
use Rattle.linked_hash_map.proofs.Names.{length-map, length-reverse, reverse-append, take-append-drop, slice_get_cases, IsEquivalence}
use Rattle.linked_hash_map.proofs.Names.{IsDistinct, keys_of, Ptr}
use Rattle.linked_hash_map.proofs.lists.FromFirst.{IsDistinct-reverse, from_first-own, reverse-middle}
use Rattle.linked_hash_map.proofs.nodes.CutNodes.{held-at, index_of-at, slice_get-at}
use Rattle.linked_hash_map.proofs.nodes.{FoundKeys.index_of-HasKey, HeldPairs.length-pairs_of}
use Rattle.std.proofs.Math.ListN.{drop_of_length-le}

reverse-last : {X : Type 0} (xs : List X) (x : X) → reverse (xs ++ x ∷ []) ≡ x ∷ reverse xs
reverse-last xs x = reverse-append xs (x ∷ [])

module _ {K V : Type 0} where
  pub IsAt-some : (hs : List (Held (K × V))) {o : Option (Position K V)} {at : Position K V} → o ≡ Some at
      → Lies (pointer_of_some o) hs → IsAt hs (pointer_of at) (index_of (pointer_of at) hs)
  IsAt-some hs some lies = IsAt-index_of _ hs (subst (λ q. Lies (pointer_of_some q) hs) some lies)

  -- as many as there are, and one if there is a pointer
  pub length-pairs_from : (o : Option Ptr) (hs : List (Held (K × V))) → length (pairs_from o hs) ≤ length hs
  length-pairs_from o hs = grind (arith, length-pairs_of, length-drop)

  pub length-pairs_back_from : (o : Option Ptr) (hs : List (Held (K × V))) → length (pairs_back_from o hs) ≤ length hs
  length-pairs_back_from o hs = grind (arith, length-pairs_of, length-reverse, length-take)

  pub some-pairs_from : (hs : List (Held (K × V))) {p : Ptr} → IsAt hs p (index_of p hs) → 1 ≤ length (pairs_from (Some p) hs)
  some-pairs_from hs at = grind (arith, length-pairs_of, length-drop, IsAt-within)

  pub some-pairs_back_from : (hs : List (Held (K × V))) {p : Ptr} → IsAt hs p (index_of p hs) → 1 ≤ length (pairs_back_from (Some p) hs)
  some-pairs_back_from hs at = grind (arith, length-pairs_of, length-reverse, length-take, IsAt-within)

  -- the next place
  pub Lies-place : (hs : List (Held (K × V))) (o : Option Ptr) (k : ℕ) → PlaceAt hs o k → Lies o hs
  Lies-place hs None k none = tt
  Lies-place hs (Some p) k at = index_of-held (held-at hs k at)

  module _ (hs : List (Held (K × V))) (apart : IsApart (map (λ t. t.at) hs)) where
    pairs_from-place : (o : Option Ptr) (k : ℕ) → PlaceAt hs o k → pairs_from o hs ≡ drop k (pairs_of hs)
    pairs_from-place None k none = grind (arith, slice_get_cases, length-map, length-pairs_of, drop_of_length-le)
    pairs_from-place (Some p) k at = ap (λ i. drop i (pairs_of hs)) (index_of-at hs k at apart)

    pub pairs_from-step : (p : Ptr) {o : Option Ptr} {pair : K × V} → slice_get (pairs_of hs) (index_of p hs) ≡ Some pair
        → PlaceAt hs o (index_of p hs + 1) → pairs_from (Some p) hs ≡ pair ∷ pairs_from o hs
    pairs_from-step p {o} {pair} there next =
        drop-from (pairs_of hs) _ there ∙ ap (λ ps. pair ∷ ps) (sym (pairs_from-place o _ next))

  -- the node before another, if there is one
  module _ (hs xs : List (Held (K × V))) (t : Held (K × V)) (ys : List (Held (K × V))) (is : hs ≡ xs ++ t ∷ ys) where
    abbrev IsHeld-before : {p : Ptr} → Some p ≡ last_at xs → IsHeld hs p
    IsHeld-before e =
        let l = Last-last_at xs e refl in record {
          before = l.before;
          node = l.node;
          after = t ∷ ys;
          is = is ∙ ap (λ zs. zs ++ t ∷ ys) l.is ∙ append_assoc l.before (l.node ∷ []) (t ∷ ys);
          at_is = l.at_is;
        }

    pub Lies-before : (o : Option Ptr) → o ≡ last_at xs → Lies o hs
    Lies-before None e = tt
    Lies-before (Some p) e = index_of-held (IsHeld-before e)

    pairs_back_from-before : IsApart (map (λ t. t.at) hs) → (o : Option Ptr) → o ≡ last_at xs
        → pairs_back_from o hs ≡ reverse (take (length xs) (pairs_of hs))
    pairs_back_from-before apart None e = ap (λ zs. reverse (take (length zs) (pairs_of hs))) (sym (none-last_at xs e))
    pairs_back_from-before apart (Some p) e =
        let h = IsHeld-before e in let at = index_of-at hs _ (IsAt-split h.before h.node h.after h.is h.at_is) apart in
        let long = sym (length-append xs (t ∷ ys)) ∙ ap length (sym is ∙ h.is) ∙ length-append h.before (h.node ∷ h.after) in
        ap (λ k. reverse (take k (pairs_of hs))) (omega (arith, at, long))

  pub pairs_back_from-step : (hs : List (Held (K × V))) → IsApart (map (λ t. t.at) hs) → {p : Ptr} (o : Option Ptr) {pair : K × V}
      → IsAt hs p (index_of p hs) → slice_get (pairs_of hs) (index_of p hs) ≡ Some pair → AtHeld hs p (λ xs t ys. o ≡ last_at xs)
      → pairs_back_from (Some p) hs ≡ pair ∷ pairs_back_from o hs
  pairs_back_from-step hs apart {p} o {pair} at there previous =
      let cut = cut_at hs _ at in let h = cut.held in
      ap reverse (take-through (pairs_of hs) _ there) ∙ reverse-last (take (index_of p hs) (pairs_of hs)) pair
      ∙ ap (λ ps. pair ∷ ps) (ap (λ k. reverse (take k (pairs_of hs))) (sym cut.long)
      ∙ sym (pairs_back_from-before hs h.before h.node h.after h.is apart o (previous h.before h.node h.after h.is h.at_is)))

-- the pairs from that of a key on
module _ {K V : Type 0} {eq : K → K → Bool} (laws : IsEquivalence eq) {is_key : K → Bool}
    (respects : (x y : K) → IsTrue (is_key x) → is_key y ≡ eq x y) {hash : ℕ} {hs : List (Held (K × V))} {p : Ptr}
    (h : HasKey is_key hash hs p) (distinct : IsDistinct eq (keys_of (pairs_of hs))) where
  abbrev ps : List (K × V)
  ps = pairs_of hs

  abbrev i : ℕ
  i = index_of p hs

  at : IsAt hs p i
  at = IsAt-index_of p hs (index_of-HasKey h)

  abbrev node : Held (K × V)
  node = (held-at hs i at).node

  there : slice_get ps i ≡ Some node.pair
  there = slice_get-at hs i at

  test : eq node.pair.0 ≡ is_key
  test = let held = held-at hs i at in
      λ j k. sym (respects node.pair.0 k (h.key_is held.before held.node held.after held.is held.at_is)) j

  cut : ps ≡ take i ps ++ node.pair ∷ drop (i + 1) ps
  cut = sym (take-append-drop i ps) ∙ ap (λ qs. take i ps ++ qs) (drop-from ps i there)

  turned : reverse ps ≡ reverse (drop (i + 1) ps) ++ node.pair ∷ reverse (take i ps)
  turned = ap reverse cut ∙ reverse-middle (take i ps) node.pair (drop (i + 1) ps)

  from_key : (qs us vs : List (K × V)) → qs ≡ us ++ node.pair ∷ vs → IsDistinct eq (keys_of qs)
      → node.pair ∷ vs ≡ from_first (λ pair. is_key pair.0) qs
  from_key qs us vs is apart =
      sym (from_first-own laws.refl laws.symm (λ (pair : K × V). pair.0) us node.pair vs
      (subst (λ (zs : List (K × V)). IsDistinct eq (keys_of zs)) is apart))
      ∙ (λ j. from_first (λ pair. test j pair.0) (sym is j))

  pub pairs_from-key : pairs_from (Some p) hs ≡ from_first (λ pair. is_key pair.0) ps
  pairs_from-key = drop-from ps i there ∙ from_key ps (take i ps) (drop (i + 1) ps) cut distinct

  pub pairs_back_from-key : pairs_back_from (Some p) hs ≡ from_first (λ pair. is_key pair.0) (reverse ps)
  pairs_back_from-key = ap reverse (take-through ps i there) ∙ reverse-last (take i ps) node.pair
      ∙ from_key (reverse ps) (reverse (drop (i + 1) ps)) (reverse (take i ps)) turned
      (IsDistinct-reverse laws.refl laws.symm (λ (pair : K × V). pair.0) ps distinct)
