use Rattle.std.proofs.Common.{◌≡◌, ℕ, ◌+◌, ◌≤◌, ◌-◌, ◌++◌, ◌∙◌, ◌==◌, Bool, List, length, take, drop, ap, sym, arith}
use Rattle.std.specs.Prelude.{◌&&◌}
use Rattle.std.specs.Str.{bytes_eq}
use Rattle.std.proofs.lemmas.Bool.Decides.{Decides-and, Decides-at, Decides-eqb, Decides-like, same_from_decides}
use Rattle.std.proofs.lemmas.List.{drop-drop, take-append-drop, take_rest}
use Rattle.std.proofs.lemmas.Slice.Eq.{bytes_eq-Decides}

-- what comes after the first m items comes after the first i
drop-more : (m i : ℕ) (xs ys : List ℕ) → i ≤ m → drop i xs ≡ drop i ys → drop m xs ≡ drop m ys
drop-more m i xs ys within e =
    let split : i + (m - i) ≡ m = omega arith in
    ap (λ k. drop k xs) (sym split) ∙ sym (drop-drop (m - i) i xs) ∙ ap (drop (m - i)) e
    ∙ drop-drop (m - i) i ys ∙ ap (λ k. drop k ys) split

same_by_parts : (m i : ℕ) (xs ys : List ℕ) → i ≤ m
    → (take m xs ≡ take m ys) × (drop i xs ≡ drop i ys) → xs ≡ ys
same_by_parts m i xs ys within e =
    sym (take-append-drop m xs) ∙ ap (λ zs. zs ++ drop m xs) e.0
    ∙ ap (λ zs. take m ys ++ zs) (drop-more m i xs ys within e.1) ∙ take-append-drop m ys

-- bytes are equal if those of two parts are that cover them
pub and-parts : (m i : ℕ) (xs ys : List ℕ) (front back : Bool) → i ≤ m
    → front ≡ bytes_eq (take m xs) (take m ys)
    → back ≡ bytes_eq (take (length xs - i) (drop i xs)) (take (length ys - i) (drop i ys))
    → (front && back) ≡ bytes_eq xs ys
and-parts m i xs ys front back within at_front at_back =
    let rest : back ≡ bytes_eq (drop i xs) (drop i ys) =
    at_back ∙ ap (λ zs. bytes_eq zs (take (length ys - i) (drop i ys))) (take_rest xs i)
    ∙ ap (bytes_eq (drop i xs)) (take_rest ys i) in
    same_from_decides _ _
    (Decides-like _ (same_by_parts m i xs ys within) (λ e. (ap (take m) e, ap (drop i) e))
    (Decides-and _ _ (Decides-at _ _ at_front (bytes_eq-Decides (take m xs) (take m ys)))
    (Decides-at _ _ rest (bytes_eq-Decides (drop i xs) (drop i ys)))))
    (bytes_eq-Decides xs ys)

-- bytes are equal if the numbers are that they are read from and written to
pub eq-numbers : (from : List ℕ → ℕ) (to : ℕ → List ℕ) (xs ys : List ℕ) (m n : ℕ)
    → m ≡ from xs → n ≡ from ys → to m ≡ xs → to n ≡ ys → (m == n) ≡ bytes_eq xs ys
eq-numbers from to xs ys m n read read' written written' =
    same_from_decides _ _
    (Decides-like _ (λ e. sym written ∙ ap to e ∙ written') (λ e. read ∙ ap from e ∙ sym read') (Decides-eqb m n))
    (bytes_eq-Decides xs ys)
