-- For callers: the pairs with one moved beside another. Each key finds what it found.
use Rattle.std.proofs.Common.{◌≡◌, ℕ, suc, ◌+◌, Bool, true, false, cond, not, filter, List, [], ◌∷◌, ◌++◌, take, drop, Option, Some, None}
use Rattle.std.proofs.Common.{option_map, option_to_list, refl, sym, ap, ◌∙◌, arith}
use Rattle.std.proofs.lemmas.{List.map-append, List.take-append-drop, List.take-map, List.drop-map, Map.Keys.IsDistinct-tail}
use Rattle.std.specs.{Cmp.IsEquivalence, List.IsDistinct, Map.keys_of, Option.option_or}
use Rattle.linked_hash_map.specs.Pairs.{find, without, count_before, to_behind, to_before}
use Rattle.linked_hash_map.proofs.Callers.Lookups.{eq-find, find-same, find-without, lookup_entry-append}
use Rattle.linked_hash_map.proofs.{Callers.Keys.keys_of-without, lists.Elements.option_or_none, pairs.Calls.without-absent}
use Rattle.linked_hash_map.proofs.{pairs.Indexes.others_differ}

cond-same : {X : Type 0} (b : Bool) (x : X) → cond b x x ≡ x
cond-same b x = grind arith

module _ {K V : Type 0} {eq : K → K → Bool} (laws : IsEquivalence eq) (pairs : List (K × V)) (k : K) (n : ℕ) (q : K) where
  -- among that pair alone
  found_alone : (o : Option (K × V)) → find eq pairs k ≡ o → find eq (option_to_list o) q ≡ cond (eq k q) o None
  found_alone o none = grind (arith, cond-same, eq-find)

  by_test : (b : Bool) → eq k q ≡ b
      → option_or (cond b None (find eq (take n pairs) q))
      (option_or (cond b (find eq pairs k) None) (cond b None (find eq (drop n pairs) q)))
      ≡ find eq pairs q
  by_test true same = option_or_none (find eq pairs k) ∙ find-same laws pairs k q same
  by_test false apart = sym (lookup_entry-append (eq q) (take n pairs) (drop n pairs)) ∙ ap (λ ps. find eq ps q) (take-append-drop n pairs)

  pub find-to_behind : find eq (to_behind eq pairs k n) q ≡ find eq pairs q
  find-to_behind = grind (arith, lookup_entry-append, find-without, found_alone, by_test)

-- the keys: the same in that order
keys_of-option_to_list : {K V : Type 0} (o : Option (K × V)) → keys_of (option_to_list o) ≡ option_to_list (option_map (λ pair. pair.0) o)
keys_of-option_to_list o = grind arith

pub keys_of-to_behind : {K V : Type 0} (eq : K → K → Bool) (pairs : List (K × V)) (k : K) (n : ℕ)
    → keys_of (to_behind eq pairs k n)
    ≡ filter (λ j. not (eq k j)) (take n (keys_of pairs))
    ++ (option_to_list (option_map (λ pair. pair.0) (find eq pairs k)) ++ filter (λ j. not (eq k j)) (drop n (keys_of pairs)))
keys_of-to_behind eq pairs k n = grind (arith, map-append, keys_of-without, take-map, keys_of-option_to_list, drop-map)

-- a pair beside itself stays in its place
pub to_before-own : {K V : Type 0} {eq : K → K → Bool} → IsEquivalence eq → (pairs : List (K × V)) (k : K)
    → IsDistinct eq (keys_of pairs) → to_before eq eq pairs k k ≡ pairs
to_before-own laws [] k distinct = refl
to_before-own {K} {V} {eq} laws (first ∷ pairs) k distinct =
    by_test (to_before-own laws pairs k (IsDistinct-tail eq first.0 (keys_of pairs) distinct)) (eq k first.0) refl
  where
    by_test : to_behind eq pairs k (count_before eq pairs k) ≡ pairs → (b : Bool) → eq k first.0 ≡ b
        → without eq (take (cond (not b) (1 + count_before eq pairs k) 0) (first ∷ pairs)) k
        ++ (option_to_list (cond b (Some first) (find eq pairs k))
        ++ without eq (drop (cond (not b) (1 + count_before eq pairs k) 0) (first ∷ pairs)) k)
        ≡ first ∷ pairs
    by_test rest true same =
        ap (λ b. first ∷ cond (not b) (first ∷ without eq pairs k) (without eq pairs k)) same
        ∙ ap (λ ps. first ∷ ps) (without-absent eq pairs k (others_differ laws k first pairs distinct same))
    by_test rest false apart =
        let one : 1 + count_before eq pairs k ≡ suc (count_before eq pairs k) = omega arith in
        ap (λ n. without eq (take n (first ∷ pairs)) k ++ (option_to_list (find eq pairs k) ++ without eq (drop n (first ∷ pairs)) k)) one
        ∙ ap (λ b. cond (not b) (first ∷ without eq (take (count_before eq pairs k) pairs) k)
        (without eq (take (count_before eq pairs k) pairs) k)
        ++ (option_to_list (find eq pairs k) ++ without eq (drop (count_before eq pairs k) pairs) k)) apart
        ∙ ap (λ ps. first ∷ ps) rest
