-- A node whose key is replaced by one that is the same.
use Rattle.linked_hash_map.proofs.Names.{[], length-append, VisitState, bookmark_at, current_at, set-append_seam, map-append, IsEquivalence}
use Rattle.linked_hash_map.proofs.Names.{map, slice_get, slice_set, same_ptr, index_of, rekeyed, bare_node, cursor_at, pairs_of, IsDistinct}
use Rattle.linked_hash_map.proofs.Names.{Bool, IsTrue, Option, arith, length, subst, sym, AtHeld, IsHeld, IsKept, set_key, map-set, keys_of}
use Rattle.linked_hash_map.proofs.Names.{List, None, Some, ap, cond, refl, ℕ, ◌++◌, ◌+◌, ◌∙◌, ◌∷◌, ◌≡◌, Held, held, Lies, bare, Ptr}
use Rattle.linked_hash_map.proofs.lists.Distinct.{AllByRecursion-replaced, IsDistinct-replaced}
use Rattle.linked_hash_map.proofs.{lists.Stretches.stretch-set, nodes.Kept.no_visit, pairs.Indexes.set_key_by_index}
use Rattle.linked_hash_map.proofs.nodes.{CutNodes.pairs_of-held, CutNodes.slice_get-held, Outside.IsElsewhere, Outside.to_visit_of}
use Rattle.linked_hash_map.proofs.nodes.HeldPairs.{index_of-bare, length-pairs_of, pairs_of-append}

-- the node u among bare nodes gets the key k
module _ {K : Type 0} (front : List (Held K)) (u : Held K) (back : List (Held K)) (k : K) where
  abbrev renewed : List (Held K)
  renewed = front ++ record u { pair = k } ∷ back

  index_of-renewed : (p : Ptr) → index_of p renewed ≡ index_of p (front ++ u ∷ back)
  index_of-renewed p = by_front front
    where
      by_front : (ts : List (Held K)) → index_of p (ts ++ record u { pair = k } ∷ back) ≡ index_of p (ts ++ u ∷ back)
      by_front [] = refl
      by_front (t ∷ ts) = ap (λ n. cond (same_ptr t.at p) 0 (n + 1)) (by_front ts)

  length-renewed : length renewed ≡ length (front ++ u ∷ back)
  length-renewed = length-append front (record u { pair = k } ∷ back) ∙ sym (length-append front (u ∷ back))

  bookmark_at-renewed : (o : Option Ptr) → bookmark_at o renewed ≡ bookmark_at o (front ++ u ∷ back)
  bookmark_at-renewed o = grind (arith, index_of-renewed)

  current_at-renewed : (o : Option Ptr) → current_at o renewed ≡ current_at o (front ++ u ∷ back)
  current_at-renewed o = grind (arith, index_of-renewed)

  Lies-renewed : (o : Option Ptr) → Lies o (front ++ u ∷ back) → Lies o renewed
  Lies-renewed o lies = grind (arith, index_of-renewed, length-renewed)

  module _ {eq : K → K → Bool} (laws : IsEquivalence eq) {hash : K → ℕ} {capacity : ℕ} {visit : VisitState}
      (kept : IsKept eq hash (front ++ u ∷ back) capacity visit) (same : IsTrue (eq k u.pair))
      (same_hash : hash k ≡ hash u.pair) where
    IsKept-renewed : IsKept eq hash renewed capacity visit
    IsKept-renewed =
        let keys : List (Held K) → List K = map (λ t. t.pair) in
        let long = length-renewed in let at = bookmark_at-renewed visit.bookmark in
        record {
          distinct = subst (IsDistinct eq) (sym (map-append (λ (t : Held K). t.pair) front (record u { pair = k } ∷ back)))
              (IsDistinct-replaced laws (keys front) (keys back) same
              (subst (IsDistinct eq) (map-append (λ (t : Held K). t.pair) front (u ∷ back)) kept.distinct));
          hashed = AllByRecursion-replaced (λ t. t.hash ≡ hash t.pair) front back (λ is. is ∙ sym same_hash) kept.hashed;
          within = omega (arith, long, kept.within);
          limit = kept.limit;
          bookmarked = kept.bookmarked;
          ended = kept.ended;
          in_reach = omega (arith, at, long, kept.in_reach);
          current_lies = Lies-renewed visit.current kept.current_lies;
        }

-- hs are the nodes before, and ks those where the node at p has the key k
module _ {K V : Type 0} {hs ks : List (Held (K × V))} {p : Ptr} (h : IsHeld hs p) (k : K)
    (is : AtHeld hs p (λ xs t ys. ks ≡ xs ++ rekeyed k t ∷ ys)) where
  rekeyed_is : ks ≡ h.before ++ rekeyed k h.node ∷ h.after
  rekeyed_is = is h.before h.node h.after h.is h.at_is

  bare_old : bare hs ≡ bare h.before ++ bare_node h.node ∷ bare h.after
  bare_old = ap bare h.is ∙ map-append bare_node h.before (h.node ∷ h.after)

  bare_new : bare ks ≡ bare h.before ++ held h.node.at h.node.hash None k ∷ bare h.after
  bare_new = ap bare rekeyed_is ∙ map-append bare_node h.before (rekeyed k h.node ∷ h.after)

  pub cursor_at-rekeyed : (visit : VisitState) → cursor_at visit (bare ks) ≡ cursor_at visit (bare hs)
  cursor_at-rekeyed visit =
      let front = bare h.before in let u = bare_node h.node in let back = bare h.after in
      ap (cursor_at visit) bare_new
      ∙ (λ i. record {
        bookmark = bookmark_at-renewed front u back k visit.bookmark i;
        unvisited = visit.unvisited;
        current = current_at-renewed front u back k visit.current i;
      })
      ∙ sym (ap (cursor_at visit) bare_old)

  pub index_of-rekeyed : (q : Ptr) → index_of q ks ≡ index_of q hs
  index_of-rekeyed q = sym (index_of-bare q ks)
      ∙ ap (λ cursor. cursor.current) (cursor_at-rekeyed (record no_visit { current = Some q })) ∙ index_of-bare q hs

  pub pairs_of-rekeyed : pairs_of ks ≡ slice_set (pairs_of hs) (length h.before) (k, h.node.pair.1)
  pairs_of-rekeyed = grind (arith, length-pairs_of, rekeyed_is, pairs_of-append, pairs_of-held, set-append_seam)

  pub slice_get-rekeyed : slice_get (pairs_of ks) (length h.before) ≡ Some (k, h.node.pair.1)
  slice_get-rekeyed = slice_get-held (record {
    before = h.before;
    node = rekeyed k h.node;
    after = h.after;
    is = rekeyed_is;
    at_is = h.at_is;
  })

  -- the keys to visit stay, if the node is none of theirs
  pub to_visit-rekeyed : (visit : VisitState) → IsElsewhere (length h.before) visit (bare hs) → to_visit_of visit ks ≡ to_visit_of visit hs
  to_visit-rekeyed visit elsewhere = grind (arith, cursor_at-rekeyed, pairs_of-rekeyed, map-set, stretch-set)

  module _ {eq : K → K → Bool} (laws : IsEquivalence eq) (same : IsTrue (eq k h.node.pair.0)) where
    pub set_key-rekeyed : IsDistinct eq (keys_of (pairs_of hs)) → pairs_of ks ≡ set_key eq (pairs_of hs) k
    set_key-rekeyed distinct = pairs_of-rekeyed
        ∙ sym (set_key_by_index laws k (pairs_of hs) (length h.before) h.node.pair distinct (slice_get-held h) same)

    pub IsKept-rekeyed : {hash : K → ℕ} {capacity n : ℕ} {visit : VisitState} → IsKept eq hash (bare hs) capacity visit
        → hash k ≡ hash h.node.pair.0 → n ≡ capacity → IsKept eq hash (bare ks) n visit
    IsKept-rekeyed {hash} {capacity} {n} {visit} kept same_hash capacity_is =
        subst (λ m. IsKept eq hash (bare ks) m visit) (sym capacity_is)
        (subst (λ us. IsKept eq hash us capacity visit) (sym bare_new)
        (IsKept-renewed (bare h.before) (bare_node h.node) (bare h.after) k laws
        (subst (λ us. IsKept eq hash us capacity visit) bare_old kept) same same_hash))
