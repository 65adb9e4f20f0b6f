-- A key that a lookup finds: the index of its node.
use Rattle.linked_hash_map.proofs.Names.{Bool, List, ap, arith, length, slice_get, subst, sym, ℕ, ◌<◌, ◌∙◌, index_of-held, index_of, Held}
use Rattle.linked_hash_map.proofs.Names.{HasKey, IsIndex, bare, pairs_of, Ptr}
use Rattle.linked_hash_map.proofs.nodes.{CutNodes.CutAt-index_of, CutNodes.slice_get-held, HeldPairs.index_of-bare, HeldPairs.length-bare}

module _ {K V : Type 0} {is_key : K → Bool} {hash : ℕ} {hs : List (Held (K × V))} {p : Ptr} (h : HasKey is_key hash hs p) where
  pub index_of-HasKey : index_of p hs < length hs
  index_of-HasKey = index_of-held h.held

  pub index_of-HasKey_bare : index_of p (bare hs) < length (bare hs)
  index_of-HasKey_bare = grind (arith, index_of-HasKey, index_of-bare, length-bare)

module _ {K V : Type 0} {eq : K → K → Bool} {hash : ℕ} {k : K} {hs : List (Held (K × V))} {p : Ptr} (h : HasKey (eq k) hash hs p) where
  pub IsIndex-index_of : IsIndex eq (pairs_of hs) k (index_of p hs)
  IsIndex-index_of =
      let cut = CutAt-index_of p hs (index_of-HasKey h) in let at = cut.held in
      record {
        pair = at.node.pair;
        there = ap (slice_get (pairs_of hs)) (sym cut.long) ∙ slice_get-held at;
        same = h.key_is at.before at.node at.after at.is at.at_is;
      }

  pub IsIndex-index_of_bare : IsIndex eq (pairs_of hs) k (index_of p (bare hs))
  IsIndex-index_of_bare = subst (IsIndex eq (pairs_of hs) k) (sym (index_of-bare p hs)) IsIndex-index_of
