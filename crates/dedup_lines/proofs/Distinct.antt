-- The distinct lines, as one line after another comes.
use Rattle.std.proofs.Common.{ℕ, zero, suc, ◌≡◌, ◌+◌, ◌-◌, ◌≤◌, Bool, true, false, cond, not, ◌||◌, List, [], ◌∷◌, ◌++◌, length, take, drop}
use Rattle.std.proofs.Common.{filter, Option, None, Some, refl, sym, ap, ap₂, ◌∙◌, arith, append_assoc}
use Rattle.std.proofs.lemmas.List.{take-append-drop, length-append, length-drop, append-nil}
use Rattle.std.proofs.lemmas.{Cmp.nat_list_eq_equiv, List.Elements.filter-append, List.Filters.length-filter_both}
use Rattle.std.specs.{Str.bytes_eq, Cmp.Lexicographic.bytes_decides}
use Rattle.dedup_lines.specs.Kept.{has_line, last_appearances, last_lines, distinct_lines, unless_among, new_lines}
use Rattle.dedup_lines.specs.Push.{to_back, trimmed}

-- the lines other than this one
abbrev pub others : List (List ℕ) → List ℕ → List (List ℕ)
others lines line = filter (λ other. not (bytes_eq line other)) lines

-- one line more
pub has_line-push : (lines : List (List ℕ)) (line x : List ℕ) → has_line (lines ++ line ∷ []) x ≡ (has_line lines x || bytes_eq x line)
has_line-push [] line x = by_test (bytes_eq x line)
  where
    by_test : (t : Bool) → (t || false) ≡ t
    by_test true = refl
    by_test false = refl
has_line-push (y ∷ lines) line x = by_test (bytes_eq x y) (has_line-push lines line x)
  where
    by_test : (t : Bool) → has_line (lines ++ line ∷ []) x ≡ (has_line lines x || bytes_eq x line)
        → (t || has_line (lines ++ line ∷ []) x) ≡ ((t || has_line lines x) || bytes_eq x line)
    by_test true rest = refl
    by_test false rest = rest

-- the last appearances, once one line more comes
pub last_appearances-push : (lines : List (List ℕ)) (line : List ℕ)
    → last_appearances (lines ++ line ∷ []) ≡ to_back (last_appearances lines) line
last_appearances-push [] line = refl
last_appearances-push (x ∷ lines) line =
    ap₂ (λ t ls. cond t ls (x ∷ ls)) (has_line-push lines line x) (last_appearances-push lines line)
    ∙ by_tests (has_line lines x) (bytes_eq x line) (nat_list_eq_equiv.symm line x)
  where
    kept : List (List ℕ)
    kept = last_appearances lines

    by_tests : (had same : Bool) → bytes_eq line x ≡ same
        → cond (had || same) (to_back kept line) (x ∷ to_back kept line) ≡ to_back (cond had kept (x ∷ kept)) line
    by_tests true same is = refl
    by_tests false true is = ap (λ t. cond (not t) (x ∷ others kept line) (others kept line) ++ line ∷ []) (sym is)
    by_tests false false is = ap (λ t. cond (not t) (x ∷ others kept line) (others kept line) ++ line ∷ []) (sym is)

-- a line is among the last appearances exactly if it is among the lines
pub has_line-last_appearances : (lines : List (List ℕ)) (line : List ℕ) → has_line (last_appearances lines) line ≡ has_line lines line
has_line-last_appearances [] line = refl
has_line-last_appearances (x ∷ lines) line =
    by_tests (has_line lines x) (bytes_eq line x) refl refl (has_line-last_appearances lines line)
  where
    by_tests : (had same : Bool) → has_line lines x ≡ had → bytes_eq line x ≡ same
        → has_line (last_appearances lines) line ≡ has_line lines line
        → has_line (cond had (last_appearances lines) (x ∷ last_appearances lines)) line ≡ (bytes_eq line x || has_line lines line)
    by_tests true true has is rest = rest ∙ ap (has_line lines) ((bytes_decides line x).0 is) ∙ has
        ∙ ap (λ t. t || has_line lines line) (sym is)
    by_tests true false has is rest = rest ∙ ap (λ t. t || has_line lines line) (sym is)
    by_tests false same has is rest = ap (λ t. bytes_eq line x || t) rest

-- each line is there once
once : (lines : List (List ℕ)) (line : List ℕ) → length (last_appearances lines) ≡ length (others (last_appearances lines) line) + cond
    (has_line lines line) 1 0
once [] line = refl
once (x ∷ lines) line = by_tests (has_line lines x) (bytes_eq line x) refl refl (once lines line)
  where
    kept : List (List ℕ)
    kept = last_appearances lines

    by_tests : (had same : Bool) → has_line lines x ≡ had → bytes_eq line x ≡ same
        → length kept ≡ length (others kept line) + cond (has_line lines line) 1 0
        → length (cond had kept (x ∷ kept)) ≡ length (others (cond had kept (x ∷ kept)) line) + cond
        (bytes_eq line x || has_line lines line) 1 0
    by_tests true true has is rest = rw is (rw (ap (has_line lines) ((bytes_decides line x).0 is) ∙ has) at rest)
    by_tests true false has is rest = rw is rest
    by_tests false true has is rest =
        let absent : has_line lines line ≡ false = ap (has_line lines) ((bytes_decides line x).0 is) ∙ has in
        let same : length kept ≡ length (others kept line) + 0 = rw absent at rest in
        rw is (omega arith)
    by_tests false false has is rest = rw is (omega arith)

-- the last lines of two lists, and of one with no more than these
drop-append-add : (xs ys : List (List ℕ)) (k : ℕ) → drop (length xs + k) (xs ++ ys) ≡ drop k ys
drop-append-add [] ys k = let none : length {A = List ℕ} [] + k ≡ k = omega arith in rw none refl
drop-append-add (x ∷ xs) ys k = let more : length (x ∷ xs) + k ≡ suc (length xs + k) = omega arith in rw more (drop-append-add xs ys k)

last_lines-append : (n : ℕ) (xs ys : List (List ℕ)) → n ≤ length ys → last_lines n (xs ++ ys) ≡ last_lines n ys
last_lines-append n xs ys enough =
    let split : length (xs ++ ys) - n ≡ length xs + (length ys - n) = omega (arith, length-append xs ys) in
    rw split (drop-append-add xs ys (length ys - n))

pub last_lines-all : (n : ℕ) (xs : List (List ℕ)) → length xs ≤ n → last_lines n xs ≡ xs
last_lines-all n xs within = let none : length xs - n ≡ 0 = omega arith in rw none refl

-- the last n lines, once one more comes, are among the last n lines of before and that one
last_lines-to_back : (n : ℕ) (xs : List (List ℕ)) (line : List ℕ) → length xs ≤ length (others xs line) + 1
    → last_lines n (to_back (last_lines n xs) line) ≡ last_lines n (to_back xs line)
last_lines-to_back n xs line at_most = by_length (length xs - n) refl
  where
    by_length : (k : ℕ) → length xs - n ≡ k → last_lines n (to_back (drop k xs) line) ≡ last_lines n (to_back xs line)
    by_length zero is = refl
    by_length (suc k) is =
        let front : List (List ℕ) = take (suc k) xs in
        let back : List (List ℕ) = drop (suc k) xs in
        let parts : others front line ++ others back line ≡ others xs line = sym (filter-append _ front back)
        ∙ ap (λ ls. others ls line) (take-append-drop (suc k) xs) in
        let whole : others front line ++ to_back back line ≡ to_back xs line = sym
        (append_assoc (others front line) (others back line) (line ∷ [])) ∙ ap (λ ls. ls ++ line ∷ []) parts in
        let enough : n ≤ length (to_back back line) =
        omega (
          arith,
          ap length parts,
          length-append (others front line) (others back line),
          length-append (others back line)
              (line ∷ []),
          length-filter_both (bytes_eq line) (λ other. not (bytes_eq line other)) (λ other. refl) front,
          length-append
              front back,
          ap length (take-append-drop (suc k) xs),
          length-drop (suc k) xs,
        ) in
        sym (last_lines-append n (others front line) (to_back back line) enough) ∙ ap (last_lines n) whole

-- the distinct lines, once one more comes
pub distinct_lines-push : (size : Option ℕ) (lines : List (List ℕ)) (line : List ℕ)
    → distinct_lines size (lines ++ line ∷ []) ≡ trimmed size (to_back (distinct_lines size lines) line)
distinct_lines-push None lines line = last_appearances-push lines line
distinct_lines-push (Some n) lines line =
    ap (last_lines n) (last_appearances-push lines line)
    ∙ sym (last_lines-to_back n (last_appearances lines) line (at_most_one (has_line lines line) (once lines line)))
  where
    at_most_one : (t : Bool) → length (last_appearances lines) ≡ length (others (last_appearances lines) line) + cond t 1 0
        → length (last_appearances lines) ≤ length (others (last_appearances lines) line) + 1
    at_most_one true is = omega arith
    at_most_one false is = omega arith

-- the new lines, once one more comes
pub new_lines-push : (seen : List (List ℕ) → List (List ℕ)) (before lines : List (List ℕ)) (line : List ℕ)
    → new_lines seen before (lines ++ line ∷ []) ≡ new_lines seen before lines ++ unless_among (seen (before ++ lines)) line
new_lines-push seen before [] line = append-nil (unless_among (seen before) line)
    ∙ ap (λ ls. unless_among (seen ls) line) (sym (append-nil before))
new_lines-push seen before (x ∷ lines) line =
    ap (λ ls. unless_among (seen before) x ++ ls) (new_lines-push seen (before ++ x ∷ []) lines line)
    ∙ sym (append_assoc (unless_among (seen before) x) (new_lines seen (before ++ x ∷ []) lines)
    (unless_among (seen ((before ++ x ∷ []) ++ lines)) line))
    ∙ ap (λ ls. (unless_among (seen before) x ++ new_lines seen (before ++ x ∷ []) lines) ++ unless_among (seen ls) line)
    (append_assoc before (x ∷ []) lines)

-- the lines that have no equal line before them, by the distinct lines
pub new_lines-distinct : (before lines : List (List ℕ)) → new_lines (distinct_lines None) before lines ≡ new_lines (λ ls. ls) before lines
new_lines-distinct before [] = refl
new_lines-distinct before (line ∷ lines) = ap₂ (λ t ls. cond t [] (line ∷ []) ++ ls) (has_line-last_appearances before line)
    (new_lines-distinct (before ++ line ∷ []) lines)
