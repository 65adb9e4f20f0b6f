-- What calls in turn leave to be visited, as `MayEndVisit` says it.
use Rattle.linked_hash_map.proofs.Names.{IfNone, List, OnSome, Option, [], arith, ◌≡◌, ◌⊎◌}

module _ {K : Type 0} where
  pub MayEndVisit-trans : {old now new : List K} → (now ≡ []) ⊎ (now ≡ old) → (new ≡ []) ⊎ (new ≡ now) → (new ≡ []) ⊎ (new ≡ old)
  MayEndVisit-trans first h = grind arith

  -- after an insertion, which has returned an old value or none
  pub MayEndVisit-insert : {V : Type 0} {old new : List K} (value : Option V)
      → OnSome value (new ≡ []) → IfNone value (new ≡ old) → (new ≡ []) ⊎ (new ≡ old)
  MayEndVisit-insert value ends stays = grind arith
