-- For callers: pairs cut at one of them, and what each call says of it, in words of the cut.
use Rattle.std.proofs.Common.{◌≡◌, ◌+◌, Bool, false, cond, not, List, [], ◌∷◌, ◌++◌, length, reverse, Some, None, refl, sym, ap, ◌∙◌, subst}
use Rattle.std.proofs.Common.{ℕ, nat_eq, true, is_some, slice_get, append-nil, arith, append_assoc, length-append}
use Rattle.std.proofs.{Math.Seq.take-append_seam, Math.Seq.drop-append_seam, lemmas.List.reverse-append}
use Rattle.std.proofs.lemmas.{List.Sorted.IsPermutation-map, List.Sorted.IsPermutation-reverse}
use Rattle.std.proofs.lemmas.Map.Keys.{IsDistinct-tail, IsDistinct-IsPermutation}
use Rattle.std.specs.{Cmp.IsEquivalence, Cmp.nat_eq_equiv, List.IsDistinct, Map.keys_of}
use Rattle.linked_hash_map.specs.Pairs.{find, from, without, count_before, to_behind, to_before, to_after}
use Rattle.linked_hash_map.proofs.Callers.{Keys.without-absent, Turns.find-others}

module _ {K V : Type 0} {eq : K → K → Bool} (laws : IsEquivalence eq) where
  abbrev Differ : List (K × V) → Type 0
  Differ pairs = IsDistinct eq (keys_of pairs)

  tail : (first : K × V) (pairs : List (K × V)) → Differ (first ∷ pairs) → Differ pairs
  tail first pairs = IsDistinct-tail eq first.0 (keys_of pairs)

  right : (xs ys : List (K × V)) → Differ (xs ++ ys) → Differ ys
  right [] ys distinct = distinct
  right (x ∷ xs) ys distinct = right xs ys (tail x (xs ++ ys) distinct)

  -- the first pair has another key than one that is found behind it
  apart : (first : K × V) (pairs : List (K × V)) (pair : K × V) → Differ (first ∷ pairs) → find eq pairs pair.0 ≡ Some pair
      → eq pair.0 first.0 ≡ false
  apart first pairs pair distinct found = grind (arith, find-others)

  -- the key of a pair finds it, and the others are those before it and behind it
  own : (xs : List (K × V)) (pair : K × V) (ys : List (K × V)) → Differ (xs ++ pair ∷ ys)
      → (find eq (xs ++ pair ∷ ys) pair.0 ≡ Some pair) × (without eq (xs ++ pair ∷ ys) pair.0 ≡ xs ++ ys)
  own [] pair ys distinct = grind (arith, without-absent, find-others)
  own (x ∷ xs) pair ys distinct =
      let others = xs ++ pair ∷ ys in
      grind (arith, tail, apart, own xs pair ys (tail x others distinct))

  pub find-cut : (xs : List (K × V)) (pair : K × V) (ys : List (K × V)) → Differ (xs ++ pair ∷ ys)
      → find eq (xs ++ pair ∷ ys) pair.0 ≡ Some pair
  find-cut xs pair ys distinct = (own xs pair ys distinct).0

  pub without-cut : (xs : List (K × V)) (pair : K × V) (ys : List (K × V)) → Differ (xs ++ pair ∷ ys)
      → without eq (xs ++ pair ∷ ys) pair.0 ≡ xs ++ ys
  without-cut xs pair ys distinct = (own xs pair ys distinct).1

  -- what is found in the second of two lists is not in the first
  behind : (xs ys : List (K × V)) (pair : K × V) → Differ (xs ++ ys) → find eq ys pair.0 ≡ Some pair
      → (find eq (xs ++ ys) pair.0 ≡ Some pair) × (find eq xs pair.0 ≡ None)
  behind [] ys pair distinct found = (found, refl)
  behind (x ∷ xs) ys pair distinct found = grind (arith, tail, apart, behind xs ys pair (tail x (xs ++ ys) distinct) found)

  -- the pairs from that one on, to the back and to the front
  pub from-cut : (xs : List (K × V)) (pair : K × V) (ys : List (K × V)) → Differ (xs ++ pair ∷ ys)
      → from eq (xs ++ pair ∷ ys) pair.0 ≡ pair ∷ ys
  from-cut [] pair ys distinct = ap (λ b. cond b (pair ∷ ys) (from eq ys pair.0)) (laws.refl pair.0)
  from-cut (x ∷ xs) pair ys distinct =
      let others = xs ++ pair ∷ ys in let differ = tail x others distinct in
      grind (arith, apart, find-cut, differ, from-cut xs pair ys differ)

  pub from-cut_reverse : (xs : List (K × V)) (pair : K × V) (ys : List (K × V)) → Differ (xs ++ pair ∷ ys)
      → from eq (reverse (xs ++ pair ∷ ys)) pair.0 ≡ pair ∷ reverse xs
  from-cut_reverse xs pair ys distinct =
      let pairs = xs ++ pair ∷ ys in
      let whole : reverse pairs ≡ reverse ys ++ pair ∷ reverse xs =
      reverse-append xs (pair ∷ ys) ∙ ap (λ ps. ps ++ reverse xs) (reverse-append (pair ∷ []) ys)
      ∙ append_assoc (reverse ys) (pair ∷ []) (reverse xs) in
      ap (λ ps. from eq ps pair.0) whole
      ∙ from-cut (reverse ys) pair (reverse xs)
      (subst Differ whole (IsDistinct-IsPermutation eq laws.symm (keys_of pairs) (keys_of (reverse pairs))
      (IsPermutation-map (λ (p : K × V). p.0) pairs (reverse pairs) (IsPermutation-reverse pairs)) distinct))

  pub count_before-cut : (xs : List (K × V)) (pair : K × V) (ys : List (K × V)) → Differ (xs ++ pair ∷ ys)
      → count_before eq (xs ++ pair ∷ ys) pair.0 ≡ length xs
  count_before-cut [] pair ys distinct = ap (λ b. cond (not b) (1 + count_before eq ys pair.0) 0) (laws.refl pair.0)
  count_before-cut (x ∷ xs) pair ys distinct =
      let others = xs ++ pair ∷ ys in let differ = tail x others distinct in let rest = count_before-cut xs pair ys differ in
      grind (arith, apart, find-cut, differ)

  -- that pair, moved before others right before it
  to_behind-cut : (xs ys : List (K × V)) (pair : K × V) (zs : List (K × V)) → Differ (xs ++ (ys ++ pair ∷ zs))
      → to_behind eq (xs ++ (ys ++ pair ∷ zs)) pair.0 (length xs) ≡ xs ++ pair ∷ (ys ++ zs)
  to_behind-cut xs ys pair zs distinct = grind (arith, own, right, behind, take-append_seam, drop-append_seam, without-absent)

  pub to_before-cut : (xs : List (K × V)) (other : K × V) (ys : List (K × V)) (pair : K × V) (zs : List (K × V))
      → Differ (xs ++ other ∷ (ys ++ pair ∷ zs))
      → to_before eq eq (xs ++ other ∷ (ys ++ pair ∷ zs)) pair.0 other.0 ≡ xs ++ pair ∷ other ∷ (ys ++ zs)
  to_before-cut xs other ys pair zs distinct =
      ap (to_behind eq (xs ++ other ∷ (ys ++ pair ∷ zs)) pair.0) (count_before-cut xs other (ys ++ pair ∷ zs) distinct)
      ∙ to_behind-cut xs (other ∷ ys) pair zs distinct

  pub to_after-cut : (xs : List (K × V)) (other : K × V) (ys : List (K × V)) (pair : K × V) (zs : List (K × V))
      → Differ (xs ++ other ∷ (ys ++ pair ∷ zs))
      → to_after eq eq (xs ++ other ∷ (ys ++ pair ∷ zs)) pair.0 other.0 ≡ xs ++ other ∷ pair ∷ (ys ++ zs)
  to_after-cut xs other ys pair zs distinct =
      let rest = ys ++ pair ∷ zs in let whole = append_assoc xs (other ∷ []) rest in
      let count = count_before-cut xs other rest distinct in
      let one : count_before eq (xs ++ other ∷ rest) other.0 + 1 ≡ length (xs ++ other ∷ []) =
      omega (arith, count, length-append xs (other ∷ [])) in
      ap (to_behind eq (xs ++ other ∷ rest) pair.0) one
      ∙ ap (λ ps. to_behind eq ps pair.0 (length (xs ++ other ∷ []))) (sym whole)
      ∙ to_behind-cut (xs ++ other ∷ []) ys pair zs (subst Differ (sym whole) distinct)
      ∙ append_assoc xs (other ∷ []) (pair ∷ (ys ++ zs))

  -- the second of two pairs side by side
  module _ (xs : List (K × V)) (one two : K × V) (ys : List (K × V)) (distinct : Differ (xs ++ one ∷ two ∷ ys)) where
    between : (xs ++ one ∷ []) ++ two ∷ ys ≡ xs ++ one ∷ two ∷ ys
    between = append_assoc xs (one ∷ []) (two ∷ ys)

    differ : Differ ((xs ++ one ∷ []) ++ two ∷ ys)
    differ = subst Differ (sym between) distinct

    pub find-second : find eq (xs ++ one ∷ two ∷ ys) two.0 ≡ Some two
    find-second = ap (λ ps. find eq ps two.0) (sym between) ∙ find-cut (xs ++ one ∷ []) two ys differ

    pub from-second_reverse : from eq (reverse (xs ++ one ∷ two ∷ ys)) two.0 ≡ two ∷ one ∷ reverse xs
    from-second_reverse = grind (arith, between, from-cut_reverse, differ, reverse-append)

-- a pair right before another, and moves of one of them
module _ {V : Type 0} (xs ys : List (ℕ × V)) (one two : ℕ × V) (distinct : IsDistinct nat_eq (keys_of (xs ++ one ∷ two ∷ ys))) where
  pub neighbors_number : (xs ++ one ∷ two ∷ ys ≡ xs ++ one ∷ two ∷ ys)
      × (is_some (find nat_eq (xs ++ one ∷ two ∷ ys) one.0) ≡ true)
      × (is_some (find nat_eq (xs ++ one ∷ two ∷ ys) two.0) ≡ true)
      × (slice_get (keys_of (from nat_eq (xs ++ one ∷ two ∷ ys) one.0)) 1 ≡ Some two.0)
      × (slice_get (keys_of (from nat_eq (reverse (xs ++ one ∷ two ∷ ys)) two.0)) 1 ≡ Some one.0)
      × (to_before nat_eq nat_eq (xs ++ one ∷ two ∷ ys) two.0 one.0 ≡ xs ++ two ∷ one ∷ ys)
  neighbors_number = (
    refl,
    ap is_some (find-cut nat_eq_equiv xs one (two ∷ ys) distinct),
    ap is_some (find-second nat_eq_equiv xs one two ys distinct),
    ap (λ (ps : List (ℕ × V)). slice_get (keys_of ps) 1) (from-cut nat_eq_equiv xs one (two ∷ ys) distinct),
    ap (λ (ps : List (ℕ × V)). slice_get (keys_of ps) 1) (from-second_reverse nat_eq_equiv xs one two ys distinct),
    to_before-cut nat_eq_equiv xs one [] two ys distinct,
  )

-- neighbors, of which one is moved before the other, at numbers
pub ruleset neighbors = (neighbors_number)

-- a pair that is put behind the others, and then right behind one of them
module _ {V : Type 0} (xs ys : List (ℕ × V)) (one new : ℕ × V)
    (distinct : IsDistinct nat_eq (keys_of ((xs ++ one ∷ ys) ++ new ∷ []))) where
  pub placed_number : ((xs ++ one ∷ ys) ++ new ∷ [] ≡ (xs ++ one ∷ ys) ++ new ∷ [])
      × (is_some (find nat_eq ((xs ++ one ∷ ys) ++ new ∷ []) one.0) ≡ true)
      × (is_some (find nat_eq ((xs ++ one ∷ ys) ++ new ∷ []) new.0) ≡ true)
      × (to_after nat_eq nat_eq ((xs ++ one ∷ ys) ++ new ∷ []) new.0 one.0 ≡ xs ++ one ∷ new ∷ ys)
  placed_number =
      let whole : (xs ++ one ∷ ys) ++ new ∷ [] ≡ xs ++ one ∷ (ys ++ new ∷ []) = append_assoc xs (one ∷ ys) (new ∷ []) in
      let differ : IsDistinct nat_eq (keys_of (xs ++ one ∷ (ys ++ new ∷ []))) =
      subst (λ (ps : List (ℕ × V)). IsDistinct nat_eq (keys_of ps)) whole distinct in (
        refl,
        ap (λ (ps : List (ℕ × V)). is_some (find nat_eq ps one.0)) whole
            ∙ ap is_some (find-cut nat_eq_equiv xs one (ys ++ new ∷ []) differ),
        ap is_some (find-cut nat_eq_equiv (xs ++ one ∷ ys) new [] distinct),
        ap (λ (ps : List (ℕ × V)). to_after nat_eq nat_eq ps new.0 one.0) whole ∙ to_after-cut nat_eq_equiv xs one ys new [] differ
            ∙ ap (λ (ps : List (ℕ × V)). xs ++ one ∷ new ∷ ps) (append-nil ys),
      )

-- a new pair that is put right behind another, at numbers
pub ruleset placed = (placed_number)
