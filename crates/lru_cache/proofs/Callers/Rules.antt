-- For callers: sets of lemmas that an attribute names, as #[tactic(auto,
-- using(lru_cache::proofs::Callers::Rules::each_pair))].
use Rattle.std.proofs.Common.{◌≡◌, ◌⊎◌, ℕ, ◌<◌, true, not, List, [], ◌∷◌, ◌++◌, filter, length, get_or, refl, inl, inr, ap, sym, nat_eq}
use Rattle.std.proofs.Common.{is_some}
use Rattle.std.proofs.lemmas.{Bool.eqb-true, List.Elements.All-weaker, List.Elements.All-contains_itself}
use Rattle.std.specs.{Map.keys_of, Cmp.nat_eq_equiv, List.Contains}
use Rattle.linked_hash_map.specs.Pairs.{find, to_back_as_is}
use Rattle.linked_hash_map.proofs.Callers.Keys.{keys_of-without_first}
use Rattle.linked_hash_map.proofs.Callers.Rules as pairs
use Rattle.lru_cache.specs.Cache.{newest, inserted}
use Rattle.lru_cache.proofs.Callers.{EachPair.All-inserted, Keys.keys_of-newest, Keys.keys_of-inserted_own, Keys.keys_of-used}
use Rattle.lru_cache.proofs.Callers.Newest.{newest-all}

-- each pair after an insertion of a number is the one that was put in, or was there
pub in-inserted_number : {V : Type 0} (n : ℕ) (ps : List (ℕ × V)) (k : ℕ) (v : V) (i : ℕ) (d : ℕ × V)
    → i < length (inserted nat_eq n ps k v)
    → (get_or (inserted nat_eq n ps k v) i d ≡ get_or (inserted nat_eq n ps k v) i d)
    × ((get_or (inserted nat_eq n ps k v) i d ≡ (k, v)) ⊎ Contains ps (get_or (inserted nat_eq n ps k v) i d))
in-inserted_number {V} n ps k v i d within = (
  refl,
  All-inserted (λ (p : ℕ × V). (p ≡ (k, v)) ⊎ Contains ps p) nat_eq_equiv n ps k v
      (All-weaker (Contains ps) (λ (p : ℕ × V). (p ≡ (k, v)) ⊎ Contains ps p) (λ p there. inr there) ps (All-contains_itself ps))
      (λ key same. inl (ap (λ (j : ℕ). (j, v)) (sym (eqb-true k key same)))) i d within,
)

-- the keys after each call, at numbers
module _ {V : Type 0} (ps : List (ℕ × V)) where
  pub keys_of-inserted_number : (n k : ℕ) (v : V) → (inserted nat_eq n ps k v ≡ inserted nat_eq n ps k v)
      × (keys_of (inserted nat_eq n ps k v) ≡ newest n (filter (λ j. not (nat_eq k j)) (keys_of ps) ++ k ∷ []))
  keys_of-inserted_number n k v = (refl, keys_of-inserted_own nat_eq_equiv ps k eqb-true n v)

  -- kept for the proofs of callers of 1.3: `keys_of-used` says it of each key
  pub keys_of-used_number : (k : ℕ) → is_some (find nat_eq ps k) ≡ true
      → (to_back_as_is nat_eq ps k ≡ to_back_as_is nat_eq ps k)
      × (keys_of (to_back_as_is nat_eq ps k) ≡ filter (λ j. not (nat_eq k j)) (keys_of ps) ++ k ∷ [])
  keys_of-used_number k there = (refl, keys_of-used nat_eq_equiv ps k eqb-true there)

-- what is true of each pair, at numbers
pub ruleset each_pair = (pairs.each_pair, in-inserted_number)

-- the keys after an insertion, a lower limit and a removal of the first pair, at numbers
pub ruleset cache_keys = (keys_of-inserted_number, keys_of-newest, keys_of-without_first)

-- the pairs after an insertion in Touch, and the newest of them, at numbers
pub ruleset number_pairs = (pairs.number_pairs, newest-all)
