-- For callers: which items are in a union, an intersection, a difference or a symmetric difference
-- of two sets, and in a set after a loop of insertions or removals.
use Rattle.std.proofs.Common.{◌≡◌, ◌==◌, Bool, true, false, cond, not, ◌||◌, ◌&&◌, List, [], ◌∷◌, ◌++◌, length, filter, fold, map, refl}
use Rattle.std.proofs.{Common.sym, Common.ap, Common.ap₂, Common.◌∙◌, Common.arith}
use Rattle.std.proofs.lemmas.{List.Folds.list_any-append, Map.Views.any-filter_same}
use Rattle.std.specs.{Cmp.IsEquivalence, List.list_any, Map.keys_of}
use Rattle.linked_hash_map.specs.declared.map.Mode.TheVariants.{Touch}
use Rattle.linked_hash_set.specs.Operations.{difference, intersection, is_subset, union, symmetric_difference}
use Rattle.linked_hash_set.specs.{Inserts.insert_each, Items.contains, Items.push_if_absent}
use Rattle.linked_hash_set.proofs.Kept as kept
use Rattle.linked_hash_set.proofs.Callers.Removals.{without_each}

and-swap : (b c : Bool) → (b && c) ≡ (c && b)
and-swap b c = grind arith

or-new : (b c : Bool) → (b || (c && not b)) ≡ (b || c)
or-new b c = grind arith

to_unit : {T : Type 0} → T → T × Unit {0}
to_unit x = (x, tt)

keys_of-to_unit : {T : Type 0} (xs : List T) → keys_of (map to_unit xs) ≡ xs
unfolding to_unit
keys_of-to_unit [] = refl
keys_of-to_unit (x ∷ xs) = ap (λ ys. x ∷ ys) (keys_of-to_unit xs)

-- by what looks an item up: items that it looks up are the same
module _ {A T : Type 0} (looks_up : A → T → Bool) (eq : T → T → Bool)
    (alike : (q : A) (x y : T) → looks_up q x ≡ true → looks_up q y ≡ eq x y) (q : A) where
  contains-alike : (ys : List T) (x : T) → looks_up q x ≡ true → contains eq ys x ≡ contains looks_up ys q
  contains-alike [] x same = refl
  contains-alike (y ∷ ys) x same = ap₂ (λ b c. b || c) (sym (alike q x y same)) (contains-alike ys x same)

  module _ (xs ys : List T) where
    -- in a difference: in the first and not in the second
    pub contains-difference_by : contains looks_up (difference eq xs ys) q ≡ (contains looks_up xs q && not (contains looks_up ys q))
    contains-difference_by = any-filter_same (looks_up q) (λ x. not (contains eq ys x)) (not (contains looks_up ys q))
        (λ x same. ap not (contains-alike ys x same)) xs ∙ and-swap (not (contains looks_up ys q)) (contains looks_up xs q)

    -- in an intersection: in both
    pub contains-intersection_by : contains looks_up (intersection eq xs ys) q ≡ (contains looks_up xs q && contains looks_up ys q)
    contains-intersection_by = any-filter_same (looks_up q) (contains eq ys) (contains looks_up ys q)
        (contains-alike ys) xs ∙ and-swap (contains looks_up ys q) (contains looks_up xs q)

  module _ (xs ys : List T) where
    -- in a union: in one of the two
    pub contains-union_by : contains looks_up (union eq xs ys) q ≡ (contains looks_up xs q || contains looks_up ys q)
    contains-union_by = list_any-append (looks_up q) xs (difference eq ys xs)
        ∙ ap (λ b. contains looks_up xs q || b) (contains-difference_by ys xs)
        ∙ or-new (contains looks_up xs q) (contains looks_up ys q)

    -- in a symmetric difference: in one, and not in the other
    pub contains-symmetric_difference_by : contains looks_up (symmetric_difference eq xs ys) q
        ≡ ((contains looks_up xs q && not (contains looks_up ys q)) || (contains looks_up ys q && not (contains looks_up xs q)))
    contains-symmetric_difference_by = list_any-append (looks_up q) (difference eq xs ys) (difference eq ys xs)
        ∙ ap₂ (λ b c. b || c) (contains-difference_by xs ys) (contains-difference_by ys xs)

nil : {T : Type 0} (xs : List T) → (length xs == 0) ≡ true → xs ≡ []
nil [] none = refl
nil (x ∷ xs) none = grind arith

module _ {T : Type 0} {eq : T → T → Bool} (laws : IsEquivalence eq) where
  module _ (xs ys : List T) (q : T) where
    pub contains-difference : contains eq (difference eq xs ys) q ≡ (contains eq xs q && not (contains eq ys q))
    contains-difference = contains-difference_by eq eq laws.congr q xs ys

    pub contains-intersection : contains eq (intersection eq xs ys) q ≡ (contains eq xs q && contains eq ys q)
    contains-intersection = contains-intersection_by eq eq laws.congr q xs ys

    pub contains-union : contains eq (union eq xs ys) q ≡ (contains eq xs q || contains eq ys q)
    contains-union = contains-union_by eq eq laws.congr q xs ys

    pub contains-symmetric_difference : contains eq (symmetric_difference eq xs ys) q
        ≡ ((contains eq xs q && not (contains eq ys q)) || (contains eq ys q && not (contains eq xs q)))
    contains-symmetric_difference = contains-symmetric_difference_by eq eq laws.congr q xs ys

  -- what is in a subset is in the other
  pub contains-is_subset : (xs ys : List T) (q : T) → is_subset eq xs ys ≡ true → contains eq xs q ≡ true → contains eq ys q ≡ true
  contains-is_subset xs ys q all there =
      let none : difference eq xs ys ≡ [] = nil (difference eq xs ys) all in
      let outside = ap (λ zs. contains eq zs q) none ∙ refl in let is = contains-difference xs ys q in
      grind (arith, there, outside, is)

  -- two names of one item are in a list alike
  pub contains-same : (xs : List T) (x y : T) → eq x y ≡ true → contains eq xs x ≡ contains eq xs y
  contains-same [] x y same = refl
  contains-same (z ∷ zs) x y same = ap₂ (λ b c. b || c) (laws.congr x y z same) (contains-same zs x y same)

  -- in a set after `retain`, if the closure accepts items that are the same alike
  pub contains-filter : (kept : T → Bool) (xs : List T) (q : T) → ((x y : T) → eq x y ≡ true → kept y ≡ kept x)
      → contains eq (filter kept xs) q ≡ (contains eq xs q && kept q)
  contains-filter kept xs q alike = any-filter_same (eq q) kept (kept q) (alike q) xs ∙ and-swap (kept q) (contains eq xs q)

  -- without each of a list: in the items and not in the list
  pub contains-without_each : (xs gone : List T) (q : T)
      → contains eq (without_each eq xs gone) q ≡ (contains eq xs q && not (contains eq gone q))
  contains-without_each xs gone q = any-filter_same (eq q) (λ y. not (list_any (λ x. eq x y) gone)) (not (contains eq gone q))
      (λ y same. ap not (by_list gone y same)) xs ∙ and-swap (not (contains eq gone q)) (contains eq xs q)
    where
      by_list : (zs : List T) (y : T) → eq q y ≡ true → list_any (λ x. eq x y) zs ≡ contains eq zs q
      by_list [] y same = refl
      by_list (z ∷ zs) y same = ap₂ (λ b c. b || c) (laws.symm z y ∙ sym (laws.congr q y z same)) (by_list zs y same)

  -- after an insertion of what is not there
  pub contains-push_if_absent : (xs : List T) (x q : T) → contains eq (push_if_absent eq xs x) q ≡ (contains eq xs q || eq q x)
  contains-push_if_absent xs x q = by_test (contains eq xs x) refl
    where
      there : (b : Bool) → eq q x ≡ b → contains eq xs x ≡ true → contains eq xs q ≡ (contains eq xs q || b)
      there true same here = let now = contains-same xs q x same in grind (arith, now, here)
      there false apart here = grind arith

      by_test : (b : Bool) → contains eq xs x ≡ b → contains eq (cond b xs (xs ++ x ∷ [])) q ≡ (contains eq xs q || eq q x)
      by_test true here = there (eq q x) refl here
      by_test false absent = list_any-append (eq q) xs (x ∷ []) ∙ ap (λ b. contains eq xs q || b) (last (eq q x))
        where
          last : (b : Bool) → (b || false) ≡ b
          last b = grind arith

  -- after such insertions, one by one
  pub contains-push_each : (xs ys : List T) (q : T)
      → contains eq (fold (push_if_absent eq) xs ys) q ≡ (contains eq xs q || contains eq ys q)
  contains-push_each xs [] q = grind arith
  contains-push_each xs (y ∷ ys) q = let first = contains-push_if_absent xs y q in
      let rest = contains-push_each (push_if_absent eq xs y) ys q in
      rest ∙ ap (λ b. b || contains eq ys q) first ∙ grind arith

  -- after a loop of `insert`
  pub contains-insert_each : (xs ys : List T) (q : T) → contains eq (insert_each eq xs ys) q ≡ (contains eq xs q || contains eq ys q)
  contains-insert_each xs ys q = sym (ap (λ zs. contains eq zs q) (kept.keys_of-insert_each eq refl (map to_unit xs) (map to_unit ys)
      ∙ ap₂ (insert_each eq) (keys_of-to_unit xs) (keys_of-to_unit ys)))
      ∙ kept.contains-insert_each laws Touch (map to_unit xs) (map to_unit ys) q
      ∙ ap₂ (λ us vs. contains eq us q || contains eq vs q) (keys_of-to_unit xs) (keys_of-to_unit ys)
