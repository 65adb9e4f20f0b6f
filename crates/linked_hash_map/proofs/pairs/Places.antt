-- The pair of a key, put between the first pairs and the others, at the index of the key.
use Rattle.linked_hash_map.proofs.Names.{Bool, List, None, Option, Some, [], ap, arith, cond, drop, is_some, nat_lt, not, option_to_list}
use Rattle.linked_hash_map.proofs.Names.{remove, slice_get, subst, suc, sym, take, true, true≢false, zero, ℕ, ⊎_elim, ◌++◌, ◌+◌, ◌-◌, ◌<◌}
use Rattle.linked_hash_map.proofs.Names.{◌∙◌, ◌∷◌, ◌≡◌, ◌≤◌, to_before_at, IsIndex, count_before, find, to_behind, without, cases_lt}
use Rattle.linked_hash_map.proofs.Names.{le-ltb, lt-ltb, take-append-drop, IsDistinct-tail, IsEquivalence, IsDistinct, keys_of, option_or}
use Rattle.linked_hash_map.proofs.{Callers.Lookups.lookup_entry-append, lists.Stretches.take-none, pairs.Calls.without-absent}
use Rattle.linked_hash_map.proofs.pairs.Indexes.{find-index, first_differs, others_differ, without_at}

-- what neither of two lists has
first_none : {X : Type 0} (o p : Option X) → option_or o p ≡ None → o ≡ None
first_none o p e = grind arith

second_none : {X : Type 0} (o p : Option X) → option_or o p ≡ None → p ≡ None
second_none o p e = grind arith

module _ {K V : Type 0} (eq : K → K → Bool) (k : K) (n : ℕ) (pairs : List (K × V)) (none : find eq pairs k ≡ None) where
  neither : option_or (find eq (take n pairs) k) (find eq (drop n pairs) k) ≡ None
  neither = sym (lookup_entry-append (eq k) (take n pairs) (drop n pairs)) ∙ ap (λ ps. find eq ps k) (take-append-drop n pairs) ∙ none

  without-take_absent : without eq (take n pairs) k ≡ take n pairs
  without-take_absent = without-absent eq (take n pairs) k (first_none _ _ neither)

  without-drop_absent : without eq (drop n pairs) k ≡ drop n pairs
  without-drop_absent = without-absent eq (drop n pairs) k (second_none _ _ neither)

module _ {K V : Type 0} {eq : K → K → Bool} (laws : IsEquivalence eq) (k : K) where
  -- the first m pairs and the others, without one that is behind them
  later_out : (pairs : List (K × V)) (i m : ℕ) (pair : K × V) → IsDistinct eq (keys_of pairs) → slice_get pairs i ≡ Some pair
      → eq k pair.0 ≡ true → m ≤ i
      → (without eq (take m pairs) k ≡ take m (remove pairs i)) × (without eq (drop m pairs) k ≡ drop m (remove pairs i))
  later_out [] i m pair distinct there same before = absurd (true≢false (sym (ap is_some there)))
  later_out (first ∷ pairs) i zero pair distinct there same before = (
    sym (take-none (remove (first ∷ pairs) i)),
    without_at laws k (first ∷ pairs) i pair distinct there same,
  )
  later_out (first ∷ pairs) zero (suc m) pair distinct there same before = absurd (omega (arith, before))
  later_out (first ∷ pairs) (suc i) (suc m) pair distinct there same before =
      let rest = later_out pairs i m pair (IsDistinct-tail eq first.0 (keys_of pairs) distinct) there same (omega (arith, before)) in (
        ap (λ b. cond (not b) (first ∷ without eq (take m pairs) k) (without eq (take m pairs) k))
            (first_differs laws k first pairs i pair distinct there same)
            ∙ ap (λ ps. first ∷ ps) rest.0,
        rest.1,
      )

  -- and without one of them
  earlier_out : (pairs : List (K × V)) (i m : ℕ) (pair : K × V) → IsDistinct eq (keys_of pairs) → slice_get pairs i ≡ Some pair
      → eq k pair.0 ≡ true → i ≤ m
      → (without eq (take (suc m) pairs) k ≡ take m (remove pairs i)) × (without eq (drop (suc m) pairs) k ≡ drop m (remove pairs i))
  earlier_out [] i m pair distinct there same within = absurd (true≢false (sym (ap is_some there)))
  earlier_out (first ∷ pairs) zero m pair distinct there same within =
      let first_is : first ≡ pair = cc in
      let passes : eq k first.0 ≡ true = ap (λ p. eq k p.0) first_is ∙ same in
      let none = others_differ laws k first pairs distinct passes in (
        ap (λ b. cond (not b) (first ∷ without eq (take m pairs) k) (without eq (take m pairs) k)) passes
            ∙ without-take_absent eq k m pairs none,
        without-drop_absent eq k m pairs none,
      )
  earlier_out (first ∷ pairs) (suc i) zero pair distinct there same within = absurd (omega (arith, within))
  earlier_out (first ∷ pairs) (suc i) (suc m) pair distinct there same within =
      let rest = earlier_out pairs i m pair (IsDistinct-tail eq first.0 (keys_of pairs) distinct) there same (omega (arith, within)) in (
        ap (λ b. cond (not b) (first ∷ without eq (take (suc m) pairs) k) (without eq (take (suc m) pairs) k))
            (first_differs laws k first pairs i pair distinct there same)
            ∙ ap (λ ps. first ∷ ps) rest.0,
        rest.1,
      )

  count_before_at : (pairs : List (K × V)) (i : ℕ) (pair : K × V) → IsDistinct eq (keys_of pairs) → slice_get pairs i ≡ Some pair
      → eq k pair.0 ≡ true → count_before eq pairs k ≡ i
  count_before_at [] i pair distinct there same = absurd (true≢false (sym (ap is_some there)))
  count_before_at (first ∷ pairs) zero pair distinct there same = grind arith
  count_before_at (first ∷ pairs) (suc i) pair distinct there same =
      let rest = count_before_at pairs i pair (IsDistinct-tail eq first.0 (keys_of pairs) distinct) there same in
      let one : 1 + count_before eq pairs k ≡ suc i = omega (arith, rest) in
      ap (λ b. cond (not b) (1 + count_before eq pairs k) 0) (first_differs laws k first pairs i pair distinct there same) ∙ one

module _ {K V : Type 0} {eq : K → K → Bool} (laws : IsEquivalence eq) {pairs : List (K × V)}
    (distinct : IsDistinct eq (keys_of pairs)) {k : K} {i : ℕ} (index : IsIndex eq pairs k i) where
  pub count_before-index : count_before eq pairs k ≡ i
  count_before-index = count_before_at laws k pairs i index.pair distinct index.there index.same

  -- cut so, the pairs without that of the key are cut at m
  cut_out : (n m : ℕ) → (without eq (take n pairs) k ≡ take m (remove pairs i)) × (without eq (drop n pairs) k ≡ drop m (remove pairs i))
      → m ≡ n - cond (nat_lt i n) 1 0 → to_behind eq pairs k n ≡ to_before_at pairs i n
  cut_out n m cut at =
      (λ j. cut.0 j ++ (option_to_list ((find-index laws distinct index index.there ∙ sym index.there) j) ++ cut.1 j))
      ∙ ap (λ (m : ℕ). take m (remove pairs i) ++ (option_to_list (slice_get pairs i) ++ drop m (remove pairs i))) at

  pub to_behind-index : (n : ℕ) → to_behind eq pairs k n ≡ to_before_at pairs i n
  to_behind-index n =
      ⊎_elim
      (λ (before : i < n). let one : suc (n - 1) ≡ n = omega (arith, before) in
      let fewer : n - 1 ≡ n - cond (nat_lt i n) 1 0 = sym (ap (λ b. n - cond b 1 0) (lt-ltb i n before)) in
      cut_out n (n - 1)
      (subst (λ (c : ℕ). (without eq (take c pairs) k ≡ take (n - 1) (remove pairs i))
      × (without eq (drop c pairs) k ≡ drop (n - 1) (remove pairs i))) one
      (earlier_out laws k pairs i (n - 1) index.pair distinct index.there index.same (omega (arith, before)))) fewer)
      (λ (behind : n ≤ i). let none : n - 0 ≡ n = omega arith in
      cut_out n n (later_out laws k pairs i n index.pair distinct index.there index.same behind)
      (sym (ap (λ b. n - cond b 1 0) (le-ltb i n behind) ∙ none)))
      (cases_lt i n)
