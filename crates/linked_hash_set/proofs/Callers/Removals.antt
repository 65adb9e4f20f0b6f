-- For callers: the items of a set without each of a list, removed one after another.
use Rattle.std.proofs.Common.{◌≡◌, ℕ, ◌+◌, ◌<◌, Bool, not, List, [], ◌∷◌, ◌++◌, filter, fold, length, take, get_or, refl, sym, ap, ◌∙◌}
use Rattle.std.{proofs.Common.arith, specs.List.list_any, proofs.lemmas.List.take_more, proofs.lemmas.List.Folds.list_any-append}
use Rattle.linked_hash_set.specs.Items.{without}

-- the items except those that are the same as one of the list
abbrev pub without_each : {T : Type 0} → (T → T → Bool) → List T → List T → List T
without_each eq items xs = filter (λ y. not (list_any (λ x. eq x y) xs)) items

module _ {T : Type 0} (eq : T → T → Bool) where
  pub without_each-nil : (items : List T) → without_each eq items [] ≡ items
  without_each-nil [] = refl
  without_each-nil (y ∷ items) = ap (λ ys. y ∷ ys) (without_each-nil items)

  pub without_each-snoc : (items xs : List T) (x : T)
      → without_each eq items (xs ++ x ∷ []) ≡ without eq (without_each eq items xs) x
  without_each-snoc [] xs x = refl
  without_each-snoc (y ∷ items) xs x =
      let more = list_any-append (λ o. eq o y) xs (x ∷ []) in grind (arith, more, without_each-snoc items xs x)

  -- the next of the list is removed
  pub without_each-more : (items xs : List T) {before after : List T} {i : ℕ} {x : T} → before ≡ without_each eq items (take i xs)
      → i < length xs → x ≡ get_or xs i x → after ≡ without eq before x → after ≡ without_each eq items (take (i + 1) xs)
  without_each-more items xs {i = i} {x} was within is removed = removed ∙ ap (λ ys. without eq ys x) was
      ∙ sym (without_each-snoc items (take i xs) x)
      ∙ ap (without_each eq items) (ap (λ y. take i xs ++ y ∷ []) is ∙ sym (take_more xs i x within))

  without_each-without : (items xs : List T) (x : T) → without_each eq (without eq items x) xs ≡ without_each eq items (x ∷ xs)
  without_each-without [] xs x = refl
  without_each-without (y ∷ items) xs x = grind (arith, without_each-without items xs x)

  -- removals, one by one
  pub fold-without : (items xs : List T) → fold (without eq) items xs ≡ without_each eq items xs
  fold-without items [] = sym (without_each-nil items)
  fold-without items (x ∷ xs) = fold-without (without eq items x) xs ∙ without_each-without items xs x
