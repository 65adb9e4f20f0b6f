-- The pairs of held nodes, and the nodes with their keys alone.
use Rattle.std.proofs.Common.{◌≡◌, suc, ◌+◌, cond, List, [], ◌∷◌, ◌++◌, map, length, refl, sym, ap, ◌∙◌, arith}
use Rattle.std.{specs.Map.keys_of, proofs.lemmas.List.map-append}
use Rattle.linked_hash_map.specs.Nodes.{pairs_of, bare, bare_node}
use Rattle.lhm_ring.specs.Ring.{Held, change_at, triples, revalued, set_held_values}
use Rattle.lhm_ring.specs.{Positions.index_of, Nodes.same_ptr, Index.entries}
use denote.RawPtr.{Ptr}

-- what is the same of nodes with the same entries, and of nodes with other values
module _ {K V : Type 0} where
  pub pairs_of-of-entries : (hs : List (Held (K × V))) → pairs_of (entries hs) ≡ pairs_of hs
  pairs_of-of-entries [] = refl
  pairs_of-of-entries (t ∷ hs) = ap (λ ps. t.pair ∷ ps) (pairs_of-of-entries hs)

  pub bare-change : (p : Ptr) (w : V) (hs : List (Held (K × V))) → bare (change_at p (revalued w) hs) ≡ bare hs
  bare-change p w [] = refl
  bare-change p w (t ∷ hs) = grind (arith, bare-change p w hs)

  pub bare-values : (hs : List (Held (K × V))) (vs : List V) → bare (set_held_values hs vs) ≡ bare hs
  bare-values [] vs = refl
  bare-values (t ∷ hs) [] = refl
  bare-values (t ∷ hs) (v ∷ vs) = ap (λ us. bare_node t ∷ us) (bare-values hs vs)

  pub length-bare : (hs : List (Held (K × V))) → length (bare hs) ≡ length hs
  length-bare [] = refl
  length-bare (t ∷ hs) = ap suc (length-bare hs)

  pub length-pairs_of : (hs : List (Held (K × V))) → length (pairs_of hs) ≡ length hs
  length-pairs_of [] = refl
  length-pairs_of (t ∷ hs) = ap suc (length-pairs_of hs)

  pub length-same : (hs ks : List (Held (K × V))) → bare hs ≡ bare ks → length hs ≡ length ks
  length-same hs ks e = sym (length-bare hs) ∙ ap length e ∙ length-bare ks

  pub keys-bare : (hs : List (Held (K × V))) → map (λ u. u.pair) (bare hs) ≡ keys_of (pairs_of hs)
  keys-bare [] = refl
  keys-bare (t ∷ hs) = ap (λ ks. t.pair.0 ∷ ks) (keys-bare hs)

  pub index_of-bare : (p : Ptr) (hs : List (Held (K × V))) → index_of p (bare hs) ≡ index_of p hs
  index_of-bare p [] = refl
  index_of-bare p (t ∷ hs) = ap (λ n. cond (same_ptr t.at p) 0 (n + 1)) (index_of-bare p hs)

  -- with their hashes
  pub pairs-triples : (hs : List (Held (K × V))) → map (λ t. t.1) (triples hs) ≡ pairs_of hs
  pairs-triples [] = refl
  pairs-triples (t ∷ hs) = ap (λ ps. t.pair ∷ ps) (pairs-triples hs)

  pub pairs_of-append : (xs ys : List (Held (K × V))) → pairs_of (xs ++ ys) ≡ pairs_of xs ++ pairs_of ys
  pairs_of-append xs ys = map-append (λ (t : Held (K × V)). t.pair) xs ys

-- by these a map whose nodes are kept is valid
pub ruleset bare_nodes = (keys-bare, length-bare, length-pairs_of)
