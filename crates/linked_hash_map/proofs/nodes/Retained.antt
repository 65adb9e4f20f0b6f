-- The map once a closure has gone over its pairs and kept some.
use Rattle.std.proofs.Common.{◌≡◌, ℕ, ◌≤◌, inl, inr, Bool, false, cond, List, [], ◌∷◌, map, length, refl, sym, ap, subst, arith}
use Rattle.std.specs.{List.IsDistinct, List.AllByRecursion, Map.keys_of, Map.Calls.RetainsPairs}
use Rattle.linked_hash_map.specs.{Nodes.VisitState, Nodes.pairs_of, Nodes.bare, Nodes.IsKept, Retains.IsSublist}
use Rattle.linked_hash_map.proofs.nodes.{Kept.no_visit, HeldPairs.keys-bare, HeldPairs.length-bare, HeldPairs.length-pairs_of}
use Rattle.lhm_ring.specs.{Ring.Held, Table.RetainsHeld}

-- what holds of a list holds of some of its elements
module _ {X : Type 0} where
  pub all-sublist : (P : X → Type 0) (xs ys : List X) → IsSublist xs ys → AllByRecursion P ys → AllByRecursion P xs
  all-sublist P xs [] s h = subst (AllByRecursion P) (sym s) tt
  all-sublist P xs (y ∷ ys) (inl s) h = all-sublist P xs ys s h.1
  all-sublist P xs (y ∷ ys) (inr s) h = subst (AllByRecursion P) (sym s.1) (h.0, all-sublist P s.0 ys s.2 h.1)

  pub distinct-sublist : (eq : X → X → Bool) (xs ys : List X) → IsSublist xs ys → IsDistinct eq ys → IsDistinct eq xs
  unfolding IsDistinct
  distinct-sublist eq xs [] s h = subst (IsDistinct eq) (sym s) tt
  distinct-sublist eq xs (y ∷ ys) (inl s) h = distinct-sublist eq xs ys s h.1
  distinct-sublist eq xs (y ∷ ys) (inr s) h =
      subst (IsDistinct eq) (sym s.1) (all-sublist (λ z. eq y z ≡ false) s.0 ys s.2 h.0, distinct-sublist eq s.0 ys s.2 h.1)

  pub length-sublist : (xs ys : List X) → IsSublist xs ys → length xs ≤ length ys
  length-sublist xs [] s = let none = ap length s in omega (arith, none)
  length-sublist xs (y ∷ ys) (inl s) = let rest = length-sublist xs ys s in omega (arith, rest)
  length-sublist xs (y ∷ ys) (inr s) = let rest = length-sublist s.0 ys s.2 in let long = ap length s.1 in omega (arith, rest, long)

pub map-sublist : {X Y : Type 0} (f : X → Y) (xs ys : List X) → IsSublist xs ys → IsSublist (map f xs) (map f ys)
map-sublist f xs [] s = ap (map f) s
map-sublist f xs (y ∷ ys) (inl s) = inl (map-sublist f xs ys s)
map-sublist f xs (y ∷ ys) (inr s) = inr (map f s.0, ap (map f) s.1, map-sublist f s.0 ys s.2)

-- what `RetainsPairs` says of the first pair, by names: what the call returned, the value and the
-- closure that it left, and what is kept of the pairs after it
module _ {F K V : Type 0} (T : F → K → V → Bool → V → F → Type 0) where
  pub record RetainsFirst (f : F) (pair : K × V) (pairs kept : List (K × V)) : Type 0 where
    pub returned : Bool
    pub value : V
    pub closure : F
    pub rest : List (K × V)
    pub called : T f pair.0 pair.1 returned value closure
    pub retained : RetainsPairs T closure pairs rest
    pub kept_is : kept ≡ cond returned ((pair.0, value) ∷ rest) rest

  pub first-retained : (f : F) (pair : K × V) (pairs kept : List (K × V))
      → RetainsPairs T f (pair ∷ pairs) kept → RetainsFirst f pair pairs kept
  first-retained f pair pairs kept h = grind arith

-- the nodes that a closure keeps, except their values, and the pairs in them
module _ {F K V : Type 0} (T : F → K → V → Bool → V → F → Type 0) where
  pub bare-retained : (f : F) (hs ks : List (Held (K × V))) → RetainsHeld T f hs ks → IsSublist (bare ks) (bare hs)
  bare-retained f [] ks r = ap bare r
  bare-retained f (t ∷ hs) ks r = grind (arith, bare-retained r.closure hs r.rest r.retained)

  pairs-cond : (b : Bool) (t : Held (K × V)) (ks : List (Held (K × V)))
      → pairs_of (cond b (t ∷ ks) ks) ≡ cond b (t.pair ∷ pairs_of ks) (pairs_of ks)
  pairs-cond b t ks = grind arith

  pub pairs-retained : (f : F) (hs ks : List (Held (K × V))) → RetainsHeld T f hs ks → RetainsPairs T f (pairs_of hs) (pairs_of ks)
  pairs-retained f [] ks r = ap pairs_of r
  pairs-retained f (t ∷ hs) ks r = grind (arith, pairs-cond, pairs-retained r.closure hs r.rest r.retained)

-- the keys and the number of the pairs in some of the nodes
module _ {K V : Type 0} (hs ks : List (Held (K × V))) (some : IsSublist (bare ks) (bare hs)) where
  pub keys-some : IsSublist (keys_of (pairs_of ks)) (keys_of (pairs_of hs))
  keys-some = grind (arith, keys-bare, map-sublist)

  pub length-some : length (pairs_of ks) ≤ length (pairs_of hs)
  length-some = grind (arith, length-sublist, length-bare, length-pairs_of)

-- some of the nodes are kept as all were, if nothing is to be visited
pub IsKept-some : {K : Type 0} {eq : K → K → Bool} {hash : K → ℕ} {us ws : List (Held K)} {capacity n : ℕ} {visit : VisitState}
    → IsKept eq hash us capacity visit → IsSublist ws us → n ≡ capacity → IsKept eq hash ws n no_visit
IsKept-some {K} {eq} {hash} {us} {ws} kept some same =
    let few = length-sublist ws us some in
    record {
      distinct = distinct-sublist eq (map (λ (u : Held K). u.pair) ws) (map (λ (u : Held K). u.pair) us)
          (map-sublist (λ (u : Held K). u.pair) ws us some) kept.distinct;
      hashed = all-sublist (λ (u : Held K). u.hash ≡ hash u.pair) ws us some kept.hashed;
      within = omega (arith, few, same, kept.within);
      limit = omega (arith, same, kept.limit);
      bookmarked = λ _. refl;
      ended = λ _. refl;
      in_reach = omega arith;
      current_lies = tt;
    }
