-- Calls by a key that is the same as a stored one: they do what those by the stored key do.
use Rattle.linked_hash_map.proofs.Names.{Bool, List, Option, arith, is_some, true, ◌≡◌, ActsAs, find, key_or, put, Mode, IsEquivalence}
use Rattle.linked_hash_map.proofs.pairs.Calls.{set_or_push-present}

module _ {K V : Type 0} where
  key_or-some : (q k : K) (o : Option (K × V)) → is_some o ≡ true → key_or q o ≡ key_or k o
  key_or-some q k o h = grind arith

  -- it is inserted alike, in either mode
  pub put-ActsAs : {eq : K → K → Bool} {pairs : List (K × V)} {q k : K} → ActsAs eq pairs q k
      → (mode : Mode) (v : V) → put eq mode pairs q v ≡ put eq mode pairs k v
  put-ActsAs acts mode v = grind arith

  -- a key that is the same as one that is present does what that one does
  pub ActsAs-same : {eq : K → K → Bool} → IsEquivalence eq → (pairs : List (K × V)) (q k : K)
      → eq k q ≡ true → is_some (find eq pairs k) ≡ true → ActsAs eq pairs q k
  ActsAs-same laws pairs q k same there = grind (arith, key_or-some, set_or_push-present)
