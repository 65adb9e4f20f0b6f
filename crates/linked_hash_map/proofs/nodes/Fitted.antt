-- A map whose pairs moved into other nodes.
use Rattle.linked_hash_map.proofs.Names.{Bool, List, [], ap, arith, length, map, refl, subst, sym, ℕ, ◌∙◌, ◌∷◌, ◌≡◌, Held, triples, IsKept}
use Rattle.linked_hash_map.proofs.Names.{VisitState, bare, pairs_of, AllByRecursion, IsDistinct, keys_of}
use Rattle.lhm_ring.proofs.indexes.Entries.{length-same_triples}
use Rattle.linked_hash_map.proofs.nodes.{HeldPairs.keys-bare, HeldPairs.length-bare, HeldPairs.pairs-triples, Kept.no_visit}

module _ {K V : Type 0} where
  -- the pairs and the hashes are those of the triples
  pub pairs_of-triples : (hs ks : List (Held (K × V))) → triples ks ≡ triples hs → pairs_of ks ≡ pairs_of hs
  pairs_of-triples hs ks same = sym (pairs-triples ks) ∙ ap (map (λ z. z.1)) same ∙ pairs-triples hs

  hashed-triples : (hash : K → ℕ) (hs ks : List (Held (K × V))) → triples ks ≡ triples hs
      → AllByRecursion (λ u. u.hash ≡ hash u.pair) (bare hs) → AllByRecursion (λ u. u.hash ≡ hash u.pair) (bare ks)
  hashed-triples hash [] [] same all = tt
  hashed-triples hash [] (k ∷ ks) same all = absurd (cc)
  hashed-triples hash (t ∷ hs) [] same all = absurd (cc)
  hashed-triples hash (t ∷ hs) (k ∷ ks) same all =
      let rest : triples ks ≡ triples hs = cc in
      grind (arith, hashed-triples hash hs ks rest all.1)

  -- the pairs that stand in some nodes stand in others, as many as the capacity then is
  pub IsKept-fitted : {eq : K → K → Bool} {hash : K → ℕ} (hs ks : List (Held (K × V))) {capacity n : ℕ} {visit : VisitState}
      → IsKept eq hash (bare hs) capacity visit → triples ks ≡ triples hs → n ≡ length hs → IsKept eq hash (bare ks) n no_visit
  IsKept-fitted {eq} {hash} hs ks kept same fits =
      let long = length-same_triples ks hs same in
      let of_old = length-bare hs in let of_new = length-bare ks in
      let keys : map (λ u. u.pair) (bare ks) ≡ map (λ u. u.pair) (bare hs) =
      keys-bare ks ∙ ap keys_of (pairs_of-triples hs ks same) ∙ sym (keys-bare hs) in
      record {
        distinct = subst (IsDistinct eq) (sym keys) kept.distinct;
        hashed = hashed-triples hash hs ks same kept.hashed;
        within = omega (arith, of_new, long, fits);
        limit = omega (arith, fits, of_old, kept.within, kept.limit);
        bookmarked = λ _. refl;
        ended = λ _. refl;
        in_reach = omega arith;
        current_lies = tt;
      }
