-- For callers: what each text finds after a change, in a set of `String` items. The first part of a
-- conclusion shows `grind` the call.
use Rattle.std.proofs.Common.{◌≡◌, ◌⊎◌, inl, inr, Bool, true, false, ℕ, List, [], ◌∷◌, ◌++◌, refl, sym, ap, arith}
use Rattle.std.proofs.lemmas.List.{Elements.filter-append, Folds.Any-from_list_any}
use Rattle.std.specs.{Cmp.Lexicographic.bytes_decides, Prelude.String, Prelude.string_eq, String.string_bytes, declared.alloc.Global.Global}
use Rattle.linked_hash_map.proofs.Callers.TextLookups.{names}
use Rattle.linked_hash_set.specs.Items.{contains, without}

module _ (items : List (String Global)) (text : List ℕ) where
  abbrev IsInAlike : String Global → Type 0
  IsInAlike item = (string_bytes item ≡ text) × (contains string_eq items item ≡ contains names items text)
      × ((others : List (String Global)) → contains string_eq others item ≡ contains names others text)

  -- where a text is, an item with its bytes is, in all lists: what is said of each item says it of
  -- each text
  pub contains-by_item : (contains names items text ≡ contains names items text)
      × ((contains names items text ≡ false) ⊎ ((item : String Global) × IsInAlike item))
  contains-by_item = (refl, by_test (contains names items text) refl)
    where
      by_test : (b : Bool) → contains names items text ≡ b
          → (contains names items text ≡ false) ⊎ ((item : String Global) × IsInAlike item)
      by_test false absent = inl absent
      by_test true there =
          let found = Any-from_list_any (names text) items there in
          let bytes : string_bytes found.1 ≡ text = sym ((bytes_decides text (string_bytes found.1)).0 found.4) in
          let alike : (others : List (String Global)) → contains string_eq others found.1 ≡ contains names others text =
          λ others. ap (λ (t : List ℕ). contains names others t) bytes in
          inr (found.1, (bytes, alike items, alike))

  -- an item that was put behind the others stays if another one is removed
  pub without-push_text : (item : String Global) → contains names items text ≡ true → contains string_eq items item ≡ false
      → without names (items ++ item ∷ []) text ≡ without names items text ++ item ∷ []
  without-push_text item there new =
      let same : names text item ≡ true → contains names items text ≡ contains string_eq items item =
      λ is. ap (λ (t : List ℕ). contains names items t) ((bytes_decides text (string_bytes item)).0 is) in
      grind (arith, filter-append, same)
