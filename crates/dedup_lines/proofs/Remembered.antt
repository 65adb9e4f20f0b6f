-- The remembered lines, as items of a set.
use Rattle.std.proofs.Common.{ℕ, ◌≡◌, ◌+◌, ◌-◌, ◌≤◌, Bool, true, false, cond, not, ◌||◌, List, [], ◌∷◌, ◌++◌, length, drop, filter, Option}
use Rattle.std.proofs.Common.{None, Some, unwrap_or, refl, sym, ap, ap₂, ◌∙◌, arith, true≢false}
use Rattle.std.proofs.lemmas.List.{map-append, length-map, drop-map}
use Rattle.std.specs.{Prelude.Vec, Prelude.option_to_list, Option.ForSome, List.list_any, List.find, Str.bytes_eq}
use Rattle.std.specs.{Cmp.Lexicographic.bytes_decides, declared.alloc.Global.Global}
use Rattle.dedup_lines.specs.{Kept.has_line, Kept.last_lines, Push.bytes_of, Push.to_back, Push.trimmed}
use Rattle.dedup_lines.proofs.Distinct.{others, last_lines-all}

-- items that are found by a line
module _ (line : List ℕ) where
  abbrev same : Vec ℕ Global → Bool
  same item = bytes_eq line item.items

  pub has_line-bytes_of : (items : List (Vec ℕ Global)) → list_any same items ≡ has_line (bytes_of items) line
  has_line-bytes_of [] = refl
  has_line-bytes_of (item ∷ items) = ap (λ t. same item || t) (has_line-bytes_of items)

  bytes_of-others : (items : List (Vec ℕ Global)) → bytes_of (filter (λ item. not (same item)) items) ≡ others (bytes_of items) line
  bytes_of-others [] = refl
  bytes_of-others (item ∷ items) = by_test (same item) (bytes_of-others items)
    where
      rest : List (Vec ℕ Global)
      rest = filter (λ x. not (same x)) items

      by_test : (t : Bool) → bytes_of rest ≡ others (bytes_of items) line
          → bytes_of (cond (not t) (item ∷ rest) rest) ≡ cond (not t) (item.items ∷ others (bytes_of items) line)
          (others (bytes_of items) line)
      by_test true e = e
      by_test false e = ap (λ ls. item.items ∷ ls) e

  bytes_of-find : (items : List (Vec ℕ Global)) → has_line (bytes_of items) line ≡ true
      → bytes_of (option_to_list (find same items)) ≡ line ∷ []
  bytes_of-find [] has = absurd (true≢false (sym has))
  bytes_of-find (item ∷ items) has = by_test (same item) refl (bytes_of-find items) has
    where
      by_test : (t : Bool) → same item ≡ t → (has_line (bytes_of items) line ≡ true
          → bytes_of (option_to_list (find same items)) ≡ line ∷ []) → (t || has_line (bytes_of items) line) ≡ true
          → bytes_of (option_to_list (cond t (Some item) (find same items))) ≡ line ∷ []
      by_test true is rest has = ap (λ (l : List ℕ). l ∷ []) (sym ((bytes_decides line item.items).0 is))
      by_test false is rest has = rest has

  -- a line that is present goes to the back
  pub bytes_of-to_back_as_is : (items : List (Vec ℕ Global)) → has_line (bytes_of items) line ≡ true
      → bytes_of (filter (λ item. not (same item)) items ++ option_to_list (find same items)) ≡ to_back (bytes_of items) line
  bytes_of-to_back_as_is items has =
      map-append _ (filter (λ item. not (same item)) items) (option_to_list (find same items))
      ∙ ap₂ (λ xs ys. xs ++ ys) (bytes_of-others items) (bytes_of-find items has)

items-stored : (items : List (Vec ℕ Global)) (key : Vec ℕ Global)
    → (unwrap_or (find (λ item. bytes_eq key.items item.items) items) key).items ≡ key.items
items-stored [] key = refl
items-stored (item ∷ items) key = by_test (bytes_eq key.items item.items) refl (items-stored items key)
  where
    by_test : (t : Bool) → bytes_eq key.items item.items ≡ t → (unwrap_or (find (λ x. bytes_eq key.items x.items) items) key).items ≡
        key.items
        → (unwrap_or (cond t (Some item) (find (λ x. bytes_eq key.items x.items) items)) key).items ≡ key.items
    by_test true is rest = sym ((bytes_decides key.items item.items).0 is)
    by_test false is rest = rest

-- a line that is inserted is at the back
pub bytes_of-to_back : (items : List (Vec ℕ Global)) (key : Vec ℕ Global)
    → bytes_of (filter (λ item. not (bytes_eq key.items item.items)) items ++ unwrap_or
    (find (λ item. bytes_eq key.items item.items) items) key ∷ []) ≡ to_back (bytes_of items) key.items
bytes_of-to_back items key =
    map-append _ (filter (λ item. not (bytes_eq key.items item.items)) items)
    (unwrap_or (find (λ item. bytes_eq key.items item.items) items) key ∷ [])
    ∙ ap₂ (λ (ls : List (List ℕ)) (l : List ℕ). ls ++ l ∷ []) (bytes_of-others key.items items) (items-stored items key)

-- no line goes, or the front one
pub trimmed-all : (size : Option ℕ) (items : List (Vec ℕ Global)) → ForSome size (λ n. length items ≤ n)
    → trimmed size (bytes_of items) ≡ bytes_of items
trimmed-all None items within = refl
trimmed-all (Some n) items within = last_lines-all n (bytes_of items)
    (let e = length-map items (λ (item : Vec ℕ Global). item.items) in let h : length items ≤ n = within n refl in omega (arith, e, h))

pub last_lines-one : (n : ℕ) (items : List (Vec ℕ Global)) → length items ≡ n + 1 → last_lines n (bytes_of items) ≡ bytes_of (drop 1 items)
last_lines-one n items longer =
    let one : length (bytes_of items) - n ≡ 1 = omega (arith, length-map items (λ (item : Vec ℕ Global). item.items)) in
    rw one (drop-map (λ (item : Vec ℕ Global). item.items) 1 items)

-- what `Recent` has after a call of its set
pub ruleset remembered = (has_line-bytes_of, bytes_of-to_back_as_is, bytes_of-to_back, trimmed-all, last_lines-one)
