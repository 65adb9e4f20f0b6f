-- For callers: the pairs after some keys were moved to the back, one after another.
use Rattle.std.proofs.Common.{◌≡◌, ℕ, ◌+◌, ◌<◌, ◌≤◌, Bool, true, false, cond, not, ◌||◌, List, [], ◌∷◌, ◌++◌, filter, fold, arith, take}
use Rattle.std.proofs.Common.{length, get_or, nat_eq, Option, Some, None, option_to_list, refl, sym, ap, ap₂, ◌∙◌}
use Rattle.std.proofs.lemmas.List.{append-nil, append_assoc, take_all}
use Rattle.std.proofs.lemmas.{List.Elements.filter-append, List.Sums.fold_more, Map.Keys.IsDistinct-head, Map.Keys.IsDistinct-tail}
use Rattle.std.specs.Cmp.{IsEquivalence, nat_eq_equiv}
use Rattle.std.specs.List.{AllByRecursion, IsDistinct, cons_option, filter_map, list_any}
use Rattle.linked_hash_map.specs.Pairs.{find, without, to_back_as_is}
use Rattle.linked_hash_map.proofs.Callers.{Lookups.eq-find, Moves.find-to_back_as_is}

filter-all : {X : Type 0} (xs : List X) → filter (λ (x : X). not false) xs ≡ xs
filter-all [] = refl
filter-all (x ∷ xs) = ap (λ ys. x ∷ ys) (filter-all xs)

filter_map-same : {X Y : Type 0} (f h : X → Option Y) → ((x : X) → f x ≡ h x) → (xs : List X) → filter_map f xs ≡ filter_map h xs
filter_map-same f h same [] = refl
filter_map-same f h same (x ∷ xs) = ap₂ cons_option (same x) (filter_map-same f h same xs)

cons-option : {X : Type 0} (o : Option X) (xs : List X) → option_to_list o ++ xs ≡ cons_option o xs
cons-option o xs = grind arith

module _ {K : Type 0} {eq : K → K → Bool} (laws : IsEquivalence eq) where
  none_same : (k stored : K) → eq k stored ≡ true → (keys : List K) → AllByRecursion (λ j. eq k j ≡ false) keys
      → list_any (λ j. eq j stored) keys ≡ false
  none_same k stored same [] apart = refl
  none_same k stored same (j ∷ keys) apart = grind (arith, none_same k stored same keys apart.1)

module _ {K V : Type 0} {eq : K → K → Bool} (laws : IsEquivalence eq) where
  -- a pair with none of the keys
  abbrev pub has_none : List K → K × V → Bool
  has_none keys pair = not (list_any (λ k. eq k pair.0) keys)

  filter-without : (keys : List K) (k : K) (pairs : List (K × V))
      → filter (has_none keys) (without eq pairs k) ≡ filter (has_none (k ∷ keys)) pairs
  filter-without keys k [] = refl
  filter-without keys k (pair ∷ pairs) = by_test (eq k pair.0) (filter-without keys k pairs)
    where
      by_test : (b : Bool) → filter (has_none keys) (without eq pairs k) ≡ filter (has_none (k ∷ keys)) pairs
          → filter (has_none keys) (cond (not b) (pair ∷ without eq pairs k) (without eq pairs k))
          ≡ cond (not (b || list_any (λ j. eq j pair.0) keys)) (pair ∷ filter (has_none (k ∷ keys)) pairs)
          (filter (has_none (k ∷ keys)) pairs)
      by_test true rest = rest
      by_test false rest = ap (λ ps. cond (has_none keys pair) (pair ∷ ps) ps) rest

  filter-found : (keys : List K) (k : K) (pairs : List (K × V)) → AllByRecursion (λ j. eq k j ≡ false) keys
      → filter (has_none keys) (option_to_list (find eq pairs k)) ≡ option_to_list (find eq pairs k)
  filter-found keys k pairs apart = by_pair (find eq pairs k) refl
    where
      by_pair : (o : Option (K × V)) → find eq pairs k ≡ o → filter (has_none keys) (option_to_list o) ≡ option_to_list o
      by_pair None none = refl
      by_pair (Some pair) found =
          ap (λ b. cond (not b) (pair ∷ []) []) (none_same laws k pair.0 (eq-find laws pairs k pair found) keys apart)

  -- first the pairs with none of the keys, then those of the keys, in their order
  pub fold-to_back_as_is : (keys : List K) (pairs : List (K × V)) → IsDistinct eq keys
      → fold (to_back_as_is eq) pairs keys ≡ filter (has_none keys) pairs ++ filter_map (find eq pairs) keys
  fold-to_back_as_is [] pairs distinct = sym (append-nil (filter (has_none []) pairs) ∙ filter-all pairs)
  fold-to_back_as_is (k ∷ keys) pairs distinct =
      let found = option_to_list (find eq pairs k) in
      fold-to_back_as_is keys (to_back_as_is eq pairs k) (IsDistinct-tail eq k keys distinct)
      ∙ ap₂ (λ ps qs. ps ++ qs)
      (filter-append (has_none keys) (without eq pairs k) found
      ∙ ap₂ (λ ps qs. ps ++ qs) (filter-without keys k pairs) (filter-found keys k pairs (IsDistinct-head eq k keys distinct)))
      (filter_map-same (find eq (to_back_as_is eq pairs k)) (find eq pairs) (λ q. find-to_back_as_is laws pairs k q) keys)
      ∙ append_assoc (filter (has_none (k ∷ keys)) pairs) found (filter_map (find eq pairs) keys)
      ∙ ap (λ ps. filter (has_none (k ∷ keys)) pairs ++ ps) (cons-option (find eq pairs k) (filter_map (find eq pairs) keys))

-- the first n numbers were moved to the back, one after another
module _ {V : Type 0} (start now : List (ℕ × V)) (keys : List ℕ) (n : ℕ) where
  pub record IsArranged : Type 0 where
    pub now_is : now ≡ fold (to_back_as_is nat_eq) start (take n keys)

module _ {V : Type 0} {start now : List (ℕ × V)} {keys : List ℕ} {n : ℕ} where
  pub IsArranged-next : {after : List (ℕ × V)} → IsArranged start now keys n → n < length keys
      → after ≡ to_back_as_is nat_eq now (get_or keys n 0) → IsArranged start after keys (n + 1)
  IsArranged-next arranged within after_is = record {
    now_is = after_is ∙ ap (λ (ps : List (ℕ × V)). to_back_as_is nat_eq ps (get_or keys n 0)) arranged.now_is
        ∙ sym (fold_more (to_back_as_is nat_eq) start keys n 0 within);
  }

  pub IsArranged-all : IsArranged start now keys n → length keys ≤ n → IsDistinct nat_eq keys
      → now ≡ filter (has_none nat_eq_equiv keys) start ++ filter_map (find nat_eq start) keys
  IsArranged-all arranged all distinct =
      arranged.now_is ∙ ap (fold (to_back_as_is nat_eq) start) (take_all n keys all) ∙ fold-to_back_as_is nat_eq_equiv keys start distinct

-- numbers that were all moved to the back, one after another
module _ {V : Type 0} (start : List (ℕ × V)) (keys : List ℕ) (n : ℕ) where
  pub fold_arranged : length keys ≤ n → IsDistinct nat_eq keys
      → (fold (to_back_as_is nat_eq) start (take n keys) ≡ fold (to_back_as_is nat_eq) start (take n keys))
      × (fold (to_back_as_is nat_eq) start (take n keys) ≡ filter (has_none nat_eq_equiv keys) start ++ filter_map (find nat_eq start) keys)
  fold_arranged all distinct =
      (refl, ap (fold (to_back_as_is nat_eq) start) (take_all n keys all) ∙ fold-to_back_as_is nat_eq_equiv keys start distinct)

-- moves to the back, one after another: one more, and all
pub ruleset arranged = (fold_arranged, fold_more)
