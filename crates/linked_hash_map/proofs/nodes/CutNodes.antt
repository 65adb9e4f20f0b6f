-- The nodes, cut at one of them: the pair there, and its index.
use Rattle.linked_hash_map.proofs.Names.{List, Some, [], ap, arith, cond, length, map, option_map, slice_get, subst, sym, ℕ, ◌++◌, ◌+◌, ◌<◌}
use Rattle.linked_hash_map.proofs.Names.{◌∙◌, ◌∷◌, ◌≡◌, IsApart-tail, IsFresh-head, same_ptr-reflexive, CutAt-IsAt, IsAt-index_of, cut_at}
use Rattle.linked_hash_map.proofs.Names.{slice_get-append, IsApart, IsAt, index_of, AtHeld, Held, IsHeld, change_at, revalued, TableState}
use Rattle.linked_hash_map.proofs.Names.{WritesOnly, set_value_at, Beside, map_of, pairs_of, Ptr}
use Rattle.lhm_ring.proofs.lists.Cuts.{same_ptr-fresh}
use Rattle.linked_hash_map.proofs.nodes.HeldPairs.{bare-change, length-pairs_of, pairs_of-append}
use Rattle.linked_hash_map.proofs.{nodes.Kept.map_of-revalued, pairs.Indexes.set_value_at-append}
use Rattle.lhm_ring.proofs.tables.Positions as Positions

-- nodes, cut at one of them: what is at its index
module _ {K V : Type 0} {hs : List (Held (K × V))} {p : Ptr} (held : IsHeld hs p) where
  pub pairs_of-held : pairs_of hs ≡ pairs_of held.before ++ held.node.pair ∷ pairs_of held.after
  pairs_of-held = ap pairs_of held.is ∙ pairs_of-append held.before (held.node ∷ held.after)

  pub slice_get-held : slice_get (pairs_of hs) (length held.before) ≡ Some held.node.pair
  slice_get-held = grind (arith, length-pairs_of, pairs_of-held, slice_get-append)

  pub pairs_of-change_at : WritesOnly hs p → (w : V)
      → pairs_of (change_at p (revalued w) hs) ≡ set_value_at (pairs_of hs) (length held.before) w
  pairs_of-change_at alone w =
      subst (λ i. pairs_of (change_at p (revalued w) hs) ≡ set_value_at (pairs_of hs) i w)
      (length-pairs_of held.before)
      (ap pairs_of (alone held.before held.node held.after held.is held.at_is w)
      ∙ pairs_of-append held.before (revalued w held.node ∷ held.after)
      ∙ sym (ap (λ ps. set_value_at ps (length (pairs_of held.before)) w) pairs_of-held
      ∙ set_value_at-append (pairs_of held.before) held.node.pair (pairs_of held.after) w))

-- the node at an index: what is read there
module _ {K V : Type 0} (hs : List (Held (K × V))) {p : Ptr} (i : ℕ) (at : IsAt hs p i) where
  abbrev pub held-at : IsHeld hs p
  held-at = (cut_at hs i at).held

  pub slice_get-at : slice_get (pairs_of hs) i ≡ Some held-at.node.pair
  slice_get-at = ap (slice_get (pairs_of hs)) (sym (cut_at hs i at).long) ∙ slice_get-held held-at

  pub part-at : {X : Type 0} (f : K × V → X) {x : X} → AtHeld hs p (λ xs t ys. x ≡ f t.pair)
      → option_map f (slice_get (pairs_of hs) i) ≡ Some x
  part-at f is = let h = held-at in ap (option_map f) slice_get-at ∙ ap Some (sym (is h.before h.node h.after h.is h.at_is))

  pub pair-at : {k : K} {v : V} → AtHeld hs p (λ xs t ys. k ≡ t.pair.0) → AtHeld hs p (λ xs t ys. v ≡ t.pair.1)
      → slice_get (pairs_of hs) i ≡ Some (k, v)
  pair-at key value = grind (arith, slice_get-at)

  -- once a value is written there
  pub pairs_of-written : WritesOnly hs p → (w : V) → pairs_of (change_at p (revalued w) hs) ≡ set_value_at (pairs_of hs) i w
  pairs_of-written alone w = pairs_of-change_at held-at alone w ∙ ap (λ j. set_value_at (pairs_of hs) j w) (cut_at hs i at).long

-- and what is seen of the map then
pub map_of-written : {K V S : Type 0} (s : TableState (K × V)) (b : Beside S) {p : Ptr} (i : ℕ) → IsAt s.held p i
    → WritesOnly s.held p → (w : V) {ps : List (K × V)} → set_value_at (pairs_of s.held) i w ≡ ps
    → map_of (record s { held = change_at p (revalued w) s.held }) b ≡ record (map_of s b) { pairs = ps }
map_of-written s b i at alone w is = grind (arith, map_of-revalued, bare-change, pairs_of-written)

-- the first node at a pointer
abbrev pub CutAt : {B : Type 0} → Ptr → List (Held B) → Type 0
CutAt p hs = Positions.CutAt hs p (index_of p hs)

pub CutAt-index_of : {B : Type 0} (p : Ptr) (hs : List (Held B)) → index_of p hs < length hs → CutAt p hs
CutAt-index_of p hs h = CutAt-IsAt hs p (index_of p hs) (IsAt-index_of p hs h)

-- nodes at different pointers: each is the first at its own
module _ {K V : Type 0} where
  pub index_of-append : (xs : List (Held (K × V))) (t : Held (K × V)) (ys : List (Held (K × V)))
      → IsApart (map (λ u. u.at) (xs ++ t ∷ ys)) → index_of t.at (xs ++ t ∷ ys) ≡ length xs
  index_of-append [] t ys d = ap (λ y. cond y 0 (index_of t.at ys + 1)) (same_ptr-reflexive t.at)
  index_of-append (x ∷ xs) t ys d =
      let on = index_of-append xs t ys (IsApart-tail x.at (map (λ u. u.at) (xs ++ t ∷ ys)) d) in
      let far = same_ptr-fresh (λ (u : Held (K × V)). u.at) x.at xs t ys (IsFresh-head x.at (map (λ u. u.at) (xs ++ t ∷ ys)) d) in
      grind (arith, far)

  pub index_of-at : (hs : List (Held (K × V))) {p : Ptr} (i : ℕ) → IsAt hs p i → IsApart (map (λ u. u.at) hs) → index_of p hs ≡ i
  index_of-at hs i at apart =
      let cut = cut_at hs i at in let h = cut.held in
      (λ j. index_of (sym h.at_is j) (h.is j))
      ∙ index_of-append h.before h.node h.after (subst (λ (us : List (Held (K × V))). IsApart (map (λ u. u.at) us)) h.is apart) ∙ cut.long
