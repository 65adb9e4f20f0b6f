-- For callers: a union that is made an item at a time, by insertions of what is not there.
use Rattle.std.proofs.Common.{◌≡◌, Bool, true, false, cond, not, ◌||◌, List, [], ◌∷◌, ◌++◌, fold, append-nil, append_assoc, refl, sym, ap}
use Rattle.std.proofs.{Common.subst, Common.◌∙◌, Common.arith, lemmas.List.Folds.list_any-append}
use Rattle.std.specs.{Cmp.IsEquivalence, List.AllByRecursion, List.IsDistinct}
use Rattle.linked_hash_set.specs.{Items.contains, Items.push_if_absent, Operations.difference, Operations.union}
use Rattle.linked_hash_set.proofs.Callers.Operations.{contains-union}

-- how far the union of `old` and `other` has come: with the items that are left it is whole, and no
-- two of these are the same
pub record IsUniting {T : Type 0} (eq : T → T → Bool) (old other items left : List T) : Type 0 where
  pub whole : union eq items left ≡ union eq old other
  pub apart : IsDistinct eq left

module _ {T : Type 0} {eq : T → T → Bool} where
  -- the start, and the end
  pub IsUniting-start : (old other : List T) → IsDistinct eq other → IsUniting eq old other old other
  IsUniting-start old other apart = record { whole = refl; apart = apart }

  pub IsUniting-end : {old other items left : List T} → IsUniting eq old other items left → left ≡ [] → items ≡ union eq old other
  IsUniting-end {old} {other} {items} {left} w none =
      sym (append-nil items) ∙ ap (union eq items) (sym none) ∙ w.whole

module _ {T : Type 0} {eq : T → T → Bool} (laws : IsEquivalence eq) where
  -- the same items are new once another is there
  difference-append : (xs ys : List T) (x : T) → AllByRecursion (λ y. eq x y ≡ false) ys
      → difference eq ys (xs ++ x ∷ []) ≡ difference eq ys xs
  difference-append xs [] x apart = refl
  difference-append xs (y ∷ ys) x apart = let more = list_any-append (eq y) xs (x ∷ []) in
      let first = apart.0 in let same = laws.symm x y in
      grind (arith, more, same, first, difference-append xs ys x apart.1)

  -- an item that is put in before those that are left
  union-push_if_absent : (xs ys : List T) (x : T) → AllByRecursion (λ y. eq x y ≡ false) ys
      → union eq (push_if_absent eq xs x) ys ≡ union eq xs (x ∷ ys)
  union-push_if_absent xs ys x apart = by_test (contains eq xs x) (difference-append xs ys x apart)
    where
      new : List T
      new = difference eq ys xs

      by_test : (b : Bool) → difference eq ys (xs ++ x ∷ []) ≡ new
          → union eq (cond b xs (xs ++ x ∷ [])) ys ≡ xs ++ cond (not b) (x ∷ new) new
      by_test true same = refl
      by_test false same = ap (λ zs. (xs ++ x ∷ []) ++ zs) same ∙ append_assoc xs (x ∷ []) new

  -- the next item
  pub IsUniting-more : {old other items left after ys : List T} {x : T} → IsUniting eq old other items left → left ≡ x ∷ ys
      → after ≡ push_if_absent eq items x → IsUniting eq old other after ys
  unfolding IsDistinct
  IsUniting-more {old} {other} {items} {left} {after} {ys} {x} w more is =
      let apart = subst (IsDistinct eq) more w.apart in
      record {
        whole = ap (λ zs. union eq zs ys) is ∙ union-push_if_absent items ys x apart.0
            ∙ ap (union eq items) (sym more) ∙ w.whole;
        apart = apart.1;
      }

  -- which items there are at the end
  pub IsUniting-contains : {old other items left : List T} → IsUniting eq old other items left → left ≡ [] → (q : T)
      → contains eq items q ≡ (contains eq old q || contains eq other q)
  IsUniting-contains {old} {other} {items} {left} w none q =
      ap (λ zs. contains eq zs q) (IsUniting-end w none) ∙ contains-union laws old other q

-- insertions of the items of a set, one by one, make a union
pub union-push_each : {T : Type 0} {eq : T → T → Bool} → IsEquivalence eq → (xs ys : List T) → IsDistinct eq ys
    → fold (push_if_absent eq) xs ys ≡ union eq xs ys
unfolding IsDistinct
union-push_each laws xs [] apart = sym (append-nil xs)
union-push_each {eq = eq} laws xs (y ∷ ys) apart = union-push_each laws (push_if_absent eq xs y) ys apart.1
    ∙ union-push_if_absent laws xs ys y apart.0
