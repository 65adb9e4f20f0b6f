-- For callers: what is true of each pair of a cache still is after an insertion and a new limit.
use Rattle.std.proofs.Common.{◌≡◌, ℕ, ◌-◌, Bool, true, List, length, Result, Ok, Err, OnOk, OnErr, sym, ap, subst}
use Rattle.std.proofs.lemmas.List.Elements.{All-drop}
use Rattle.std.specs.{Cmp.IsEquivalence, List.All, Prelude.String, Prelude.string_eq, String.string_bytes, String.string_eq_equiv}
use Rattle.linked_hash_map.specs.Pairs.{to_back}
use Rattle.linked_hash_map.proofs.Callers.{EachPair.All-to_back, EachText.AllTexts, EachText.right-string_eq}
use Rattle.lru_cache.specs.Cache.{Cache, newest, inserted}

module _ {K V : Type 0} (P : K × V → Type 0) where
  pub All-newest : (n : ℕ) (pairs : List (K × V)) → All P pairs → All P (newest n pairs)
  All-newest n pairs all = All-drop P (length pairs - n) pairs all

  pub All-inserted : {eq : K → K → Bool} → IsEquivalence eq → (n : ℕ) (pairs : List (K × V)) (k : K) (v : V)
      → All P pairs → ((key : K) → eq k key ≡ true → P (key, v)) → All P (inserted eq n pairs k v)
  All-inserted {eq} laws n pairs k v all right = All-newest n (to_back eq pairs k v) (All-to_back P laws pairs k v all right)

  -- after an `insert` that may have failed
  pub All-insert : {eq : K → K → Bool} {S R E : Type 0} → IsEquivalence eq → (old new : Cache K V S) (k : K) (v : V) (result : Result R E)
      → OnOk result (new.pairs ≡ inserted eq old.limit old.pairs k v) → OnErr result (new ≡ old)
      → ((key : K) → eq k key ≡ true → P (key, v)) → All P old.pairs → All P new.pairs
  All-insert laws old new k v (Ok r) is unchanged right all = subst (All P) (sym is) (All-inserted laws old.limit old.pairs k v all right)
  All-insert laws old new k v (Err e) is unchanged right all = subst (All P) (sym (ap (λ c. c.pairs) unchanged)) all

-- at `String` keys that are looked up by texts
module _ {Y V : Type 0} (P : List ℕ → V → Type 0) where
  pub AllTexts-inserted : (n : ℕ) (pairs : List (String Y × V)) (key : String Y) (v : V) → AllTexts P pairs → P (string_bytes key) v
      → AllTexts P (inserted string_eq n pairs key v)
  AllTexts-inserted n pairs key v all right = All-inserted (λ pair. P (string_bytes pair.0) pair.1) (string_eq_equiv {Z = Y}) n
      pairs key v all (right-string_eq P key v right)

  pub AllTexts-insert : {S R E : Type 0} (old new : Cache (String Y) V S) (key : String Y) (v : V) (result : Result R E)
      → OnOk result (new.pairs ≡ inserted string_eq old.limit old.pairs key v) → OnErr result (new ≡ old)
      → P (string_bytes key) v → AllTexts P old.pairs → AllTexts P new.pairs
  AllTexts-insert old new key v result is unchanged right all =
      All-insert (λ pair. P (string_bytes pair.0) pair.1) (string_eq_equiv {Z = Y}) old new key v result is unchanged
      (right-string_eq P key v right) all
