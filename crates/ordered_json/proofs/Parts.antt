-- A pointer, a part at a time.
use Rattle.std.proofs.Common.{◌≡◌, ◌≢◌, ℕ, zero, suc, ◌+◌, ◌*◌, ◌-◌, ◌<◌, ◌==◌, List, [], ◌∷◌, ◌++◌, length, get_or, Option}
use Rattle.std.proofs.Common.{Some, None, option_map, option_and_then, cond}
use Rattle.std.proofs.Common.{Bool, true, false, refl, sym, ap, ◌∙◌, arith, append_assoc, append-nil, ne_eqb}
use Rattle.std.specs.Char.{is_ascii_digit}
use Rattle.json.specs.Find.{get_item}
use Rattle.json.specs.Json.{Json, array, Items}
use Rattle.ordered_json.specs.Pointers.{unescape, unescape_tilde, names_after, names, number_after, index, child, get_at}

-- x is none of the list
abbrev pub Lacks : ℕ → List ℕ → Type 0
Lacks x xs = (i : ℕ) → i < length xs → get_or xs i 0 ≢ x

pub names_after-over : (part xs rest : List ℕ) → Lacks 47 xs → names_after part (xs ++ rest) ≡ names_after (part ++ xs) rest
names_after-over part [] rest lacks = rw append-nil refl
names_after-over part (x ∷ xs) rest lacks =
    rw (ne_eqb x 47 (lacks 0 (omega arith)))
    (names_after-over (part ++ x ∷ []) xs rest (λ i less. lacks (suc i) (omega arith))
    ∙ ap (λ p. names_after p rest) (append_assoc part (x ∷ []) xs))

pub names_after-cut : (part rest : List ℕ) → Lacks 47 part
    → names_after [] (part ++ 47 ∷ rest)
    ≡ option_and_then (λ name. option_map (λ names. name ∷ names) (names_after [] rest)) (unescape part)
names_after-cut part rest lacks = names_after-over [] part (47 ∷ rest) lacks

pub names_after-last : (part : List ℕ) → Lacks 47 part → names_after [] part ≡ option_map (λ name. name ∷ []) (unescape part)
names_after-last part lacks = ap (names_after []) (sym (append-nil part)) ∙ names_after-over [] part [] lacks

pub names-none : (xs : List ℕ) → 0 < length xs → ((rest : List ℕ) → xs ≢ 47 ∷ rest) → names xs ≡ None
names-none [] some other = absurd (omega arith)
names-none (x ∷ xs) some other = rw (ne_eqb x 47 (λ is. other xs (ap (λ y. y ∷ xs) is))) refl

-- a list in front of one that may be there, in two steps
pub in_front : {A : Type 0} (done : List A) (x : A) (rest : Option (List A))
    → option_map (λ more. done ++ more) (option_map (λ more. x ∷ more) rest) ≡ option_map (λ more. (done ++ x ∷ []) ++ more) rest
in_front done x None = refl
in_front done x (Some more) = ap Some (sym (append_assoc done (x ∷ []) more))

in_front_all : {A : Type 0} (done xs : List A) (rest : Option (List A))
    → option_map (λ more. done ++ more) (option_map (λ more. xs ++ more) rest) ≡ option_map (λ more. (done ++ xs) ++ more) rest
in_front_all done xs None = refl
in_front_all done xs (Some more) = ap Some (sym (append_assoc done xs more))

pub unescape-plain : (xs rest : List ℕ) → Lacks 126 xs → unescape (xs ++ rest) ≡ option_map (λ more. xs ++ more) (unescape rest)
unescape-plain [] rest lacks = by_rest (unescape rest)
  where
    by_rest : (o : Option (List ℕ)) → o ≡ option_map (λ more. more) o
    by_rest None = refl
    by_rest (Some more) = refl
unescape-plain (x ∷ xs) rest lacks =
    rw (ne_eqb x 126 (lacks 0 (omega arith)))
    (ap (option_map (λ name. x ∷ name)) (unescape-plain xs rest (λ i less. lacks (suc i) (omega arith))) ∙ by_rest (unescape rest))
  where
    by_rest : (o : Option (List ℕ)) → option_map (λ name. x ∷ name) (option_map (λ more. xs ++ more) o) ≡ option_map (λ more. x ∷
        (xs ++ more)) o
    by_rest None = refl
    by_rest (Some more) = refl

-- a part up to its first `~`, with what was before it in front
pub unescape-cut : (done plain after : List ℕ) → Lacks 126 plain
    → option_map (λ more. done ++ more) (unescape (plain ++ 126 ∷ after)) ≡ option_map (λ more. (done ++ plain) ++ more)
    (unescape_tilde after)
unescape-cut done plain after lacks =
    ap (option_map (λ more. done ++ more)) (unescape-plain plain (126 ∷ after) lacks) ∙ in_front_all done plain (unescape_tilde after)

pub unescape_tilde-none : (xs : List ℕ) → ((rest : List ℕ) → xs ≢ 48 ∷ rest) → ((rest : List ℕ) → xs ≢ 49 ∷ rest)
    → unescape_tilde xs ≡ None
unescape_tilde-none [] tilde slash = refl
unescape_tilde-none (x ∷ xs) tilde slash =
    rw (ne_eqb x 48 (λ is. tilde xs (ap (λ y. y ∷ xs) is)), ne_eqb x 49 (λ is. slash xs (ap (λ y. y ∷ xs) is))) refl

-- what a pointer leads to, a part at a time
pub get_at-names_cut : (part rest : List ℕ) (j : Json) → Lacks 47 part
    → option_and_then (λ path. get_at path j) (names_after [] (part ++ 47 ∷ rest))
    ≡ option_and_then (λ k. option_and_then (λ path. get_at path k) (names_after [] rest)) (option_and_then (λ name. child name j)
    (unescape part))
get_at-names_cut part rest j lacks =
    ap (option_and_then (λ path. get_at path j)) (names_after-cut part rest lacks) ∙ by_name (unescape part) (names_after [] rest)
  where
    by_child : (o : Option Json) → None ≡ option_and_then (λ (k : Json). option_and_then (λ path. get_at path k) None) o
    by_child None = refl
    by_child (Some k) = refl

    by_name : (o : Option (List ℕ)) (names : Option (List (List ℕ)))
        → option_and_then (λ path. get_at path j) (option_and_then (λ name. option_map (λ ns. name ∷ ns) names) o)
        ≡ option_and_then (λ k. option_and_then (λ path. get_at path k) names) (option_and_then (λ name. child name j) o)
    by_name None names = refl
    by_name (Some name) None = by_child (child name j)
    by_name (Some name) (Some path) = refl

pub get_at-names_last : (part : List ℕ) (j : Json) → Lacks 47 part
    → option_and_then (λ path. get_at path j) (names_after [] part) ≡ option_and_then (λ name. child name j) (unescape part)
get_at-names_last part j lacks = ap (option_and_then (λ path. get_at path j)) (names_after-last part lacks) ∙ by_name (unescape part)
  where
    by_child : (o : Option Json) → option_and_then (get_at []) o ≡ o
    by_child None = refl
    by_child (Some k) = refl

    by_name : (o : Option (List ℕ))
        → option_and_then (λ path. get_at path j) (option_map (λ name. name ∷ []) o) ≡ option_and_then (λ name. child name j) o
    by_name None = refl
    by_name (Some name) = by_child (child name j)

-- a name with an escape in its part is no index

tilde-number_after : (n : ℕ) (rest name : List ℕ) → unescape_tilde rest ≡ Some name → number_after n name ≡ None
tilde-number_after n [] name named = absurd (cc)
tilde-number_after n (y ∷ ys) name named = by_tests (y == 48) (y == 49) (unescape ys) named
  where
    by_tests : (a b : Bool) (o : Option (List ℕ))
        → cond a (option_map (λ m. 126 ∷ m) o) (cond b (option_map (λ m. 47 ∷ m) o) None) ≡ Some name → number_after n name ≡ None
    by_tests true b None h = absurd (cc)
    by_tests true b (Some m) h = let is : name ≡ 126 ∷ m = cc in ap (number_after n) is
    by_tests false true None h = absurd (cc)
    by_tests false true (Some m) h = let is : name ≡ 47 ∷ m = cc in ap (number_after n) is
    by_tests false false o h = absurd (cc)

number_after-escaped : (n : ℕ) (xs name : List ℕ) (i : ℕ) → i < length xs → get_or xs i 0 ≡ 126 → unescape xs ≡ Some name
    → number_after n name ≡ None
number_after-escaped n [] name i less at named = absurd (omega (arith, less))
number_after-escaped n (x ∷ xs) name zero less at named = tilde-number_after n xs name (rw at at named)
number_after-escaped n (x ∷ xs) name (suc i) less at named =
    by_test (x == 126) (unescape xs) refl named
    (λ m is. number_after-escaped (n * 10 + (x - 48)) xs m i (omega (arith, less)) at is)
  where
    by_digit : (m : List ℕ) (b : Bool) → number_after (n * 10 + (x - 48)) m ≡ None → cond b (number_after (n * 10 + (x - 48)) m) None ≡ None
    by_digit m true none = none
    by_digit m false none = refl

    by_test : (b : Bool) (o : Option (List ℕ)) → unescape xs ≡ o → cond b (unescape_tilde xs) (option_map (λ m. x ∷ m) o) ≡ Some name
        → ((m : List ℕ) → unescape xs ≡ Some m → number_after (n * 10 + (x - 48)) m ≡ None) → number_after n name ≡ None
    by_test true o is h below = tilde-number_after n xs name h
    by_test false None is h below = absurd (cc)
    by_test false (Some m) is h below =
        let name_is : name ≡ x ∷ m = cc in
        ap (number_after n) name_is ∙ by_digit m (is_ascii_digit x) (below m is)

index-none : (name : List ℕ) → number_after 0 name ≡ None → index name ≡ None
index-none [] none = refl
index-none (x ∷ []) none = none
index-none (x ∷ y ∷ rest) none = by_test (x == 48)
  where
    by_test : (b : Bool) → cond b None (number_after 0 (x ∷ y ∷ rest)) ≡ None
    by_test true = refl
    by_test false = none

pub child-escaped : (part : List ℕ) (js : Items) (i : ℕ) → i < length part → get_or part i 0 ≡ 126
    → option_and_then (λ name. child name (array js)) (unescape part) ≡ None
child-escaped part js i less at = by_name (unescape part) refl
  where
    by_name : (o : Option (List ℕ)) → unescape part ≡ o → option_and_then (λ name. child name (array js)) o ≡ None
    by_name None is = refl
    by_name (Some name) is =
        ap (option_and_then (λ n. get_item n js)) (index-none name (number_after-escaped 0 part name i less at is))

pub unescape-same : (part : List ℕ) → Lacks 126 part → unescape part ≡ Some part
unescape-same part lacks = ap unescape (sym (append-nil part)) ∙ unescape-plain part [] lacks ∙ ap Some (append-nil part)
