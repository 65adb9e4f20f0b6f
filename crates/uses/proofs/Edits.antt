-- What an edit of a tree leaves at each path.
use Rattle.std.proofs.Common.{◌≡◌, ℕ, List, [], ◌∷◌, ◌++◌, map, filter, Option, Some, None, option_map, option_and_then, unwrap_or}
use Rattle.std.proofs.Common.{is_some, cond, not, max, ◌||◌, ◌+◌, ◌≤◌, Bool, true, false, refl, sym, ap, subst, ◌∙◌, ◌<◌, length}
use Rattle.std.proofs.Common.{arith}
use Rattle.std.specs.Cmp.Lexicographic.{bytes_decides, nat_list_eq_equiv}
use Rattle.std.specs.Str.{bytes_eq}
use Rattle.uses.specs.Trees.{Tree, object, Members, no_members, member, get_member, put_member, without_member, rename_member}
use Rattle.uses.specs.Trees.{is_object, on_object, get, get_at, member_at, has_place, is_free, edit_at, set_at, size, size_in}

-- whether a path leads neither to the value at another, nor into it, nor to an object that it is
-- in; the last names are compared by a test
abbrev pub are_apart : (List ℕ → List ℕ → Bool) → List (List ℕ) → List (List ℕ) → Bool
are_apart test [] other = false
are_apart test (name ∷ path) [] = false
are_apart test (name ∷ []) (q ∷ other) = not (test name q)
are_apart test (name ∷ next ∷ path) (q ∷ other) =
    cond (bytes_eq name q) (are_apart test (next ∷ path) other) true

-- the path, with another last name
abbrev pub with_last : List (List ℕ) → List ℕ → List (List ℕ)
with_last [] to = []
with_last (name ∷ []) to = to ∷ []
with_last (name ∷ next ∷ path) to = name ∷ with_last (next ∷ path) to

-- the names of the members, in order
abbrev pub names_in : Members → List (List ℕ)
names_in no_members = []
names_in (member name t ms) = name ∷ names_in ms

-- a value that is set as it is changes nothing
pub put_member-own : (name : List ℕ) (ms : Members) (t : Tree) → get_member name ms ≡ Some t → put_member t name ms ≡ ms
put_member-own name no_members t found = absurd (cc)
put_member-own name (member other u ms) t found = by_test (put_member-own name ms t) (bytes_eq name other) refl found
  where
    by_test : (get_member name ms ≡ Some t → put_member t name ms ≡ ms)
        → (b : Bool) → bytes_eq name other ≡ b → cond b (Some u) (get_member name ms) ≡ Some t
        → put_member t name (member other u ms) ≡ member other u ms
    by_test rest true same is = let u_is : u ≡ t = cc in rw (same, u_is) refl
    by_test rest false apart is = rw apart (ap (member other u) (rest is))

pub rename_member-absent : (to name : List ℕ) (ms : Members) → get_member name ms ≡ None → rename_member to name ms ≡ ms
rename_member-absent to name no_members none = refl
rename_member-absent to name (member other u ms) none = by_test (rename_member-absent to name ms) (bytes_eq name other) refl none
  where
    by_test : (get_member name ms ≡ None → rename_member to name ms ≡ ms)
        → (b : Bool) → bytes_eq name other ≡ b → cond b (Some u) (get_member name ms) ≡ None
        → rename_member to name (member other u ms) ≡ member other u ms
    by_test rest true same is = absurd (cc)
    by_test rest false apart is = rw apart (ap (member other u) (rest is))

-- a name changed to itself
pub rename_member-own : (to name : List ℕ) (ms : Members) → name ≡ to → rename_member to name ms ≡ ms
rename_member-own to name no_members same = refl
rename_member-own to name (member other u ms) same = by_test (rename_member-own to name ms same) (bytes_eq name other) refl
  where
    by_test : rename_member to name ms ≡ ms
        → (b : Bool) → bytes_eq name other ≡ b → rename_member to name (member other u ms) ≡ member other u ms
    by_test rest true alike = rw (alike, rest) (ap (λ k. member k u ms) (sym same ∙ (bytes_decides name other).0 alike))
    by_test rest false apart = rw (apart, rest) refl

-- what a name finds after a change of the members

same_name : (name q other : List ℕ) → bytes_eq name q ≡ false → bytes_eq name other ≡ true → bytes_eq q other ≡ false
same_name name q other apart same = by_test (bytes_eq q other) refl
  where
    by_test : (b : Bool) → bytes_eq q other ≡ b → b ≡ false
    by_test true alike = sym (ap (bytes_eq name) ((bytes_decides q other).0 alike) ∙ same) ∙ apart
    by_test false alike = refl

pub get_member-put : (u : Tree) (name : List ℕ) (ms : Members) → get_member name (put_member u name ms) ≡ Some u
get_member-put u name no_members = rw nat_list_eq_equiv.refl refl
get_member-put u name (member other v ms) = grind (arith, get_member-put u name ms)

pub get_member-put_apart : (u : Tree) (name q : List ℕ) (ms : Members) → bytes_eq name q ≡ false
    → get_member q (put_member u name ms) ≡ get_member q ms
get_member-put_apart u name q no_members apart = rw (nat_list_eq_equiv.symm q name ∙ apart) refl
get_member-put_apart u name q (member other v ms) apart =
    grind (arith, same_name name q other apart, get_member-put_apart u name q ms apart)

pub get_member-without : (name : List ℕ) (ms : Members) → get_member name (without_member name ms) ≡ None
get_member-without name no_members = refl
get_member-without name (member other u ms) = grind (arith, get_member-without name ms)

pub get_member-without_apart : (name q : List ℕ) (ms : Members) → bytes_eq name q ≡ false
    → get_member q (without_member name ms) ≡ get_member q ms
get_member-without_apart name q no_members apart = refl
get_member-without_apart name q (member other u ms) apart =
    grind (arith, same_name name q other apart, get_member-without_apart name q ms apart)

pub get_member-rename_apart : (to name q : List ℕ) (ms : Members) → bytes_eq name q ≡ false → bytes_eq to q ≡ false
    → get_member q (rename_member to name ms) ≡ get_member q ms
get_member-rename_apart to name q no_members apart new = refl
get_member-rename_apart to name q (member other u ms) apart new =
    grind (arith, same_name name q other apart, nat_list_eq_equiv.symm q to, get_member-rename_apart to name q ms apart new)

-- the new name finds what the old one found, if it was free
pub get_member-rename : (to name : List ℕ) (ms : Members) → get_member to ms ≡ None
    → get_member to (rename_member to name ms) ≡ get_member name ms
get_member-rename to name no_members none = refl
get_member-rename to name (member other u ms) none = by_test (get_member-rename to name ms) (bytes_eq name other) refl
    (bytes_eq to other) refl none
  where
    by_test : (get_member to ms ≡ None → get_member to (rename_member to name ms) ≡ get_member name ms)
        → (a : Bool) → bytes_eq name other ≡ a → (b : Bool) → bytes_eq to other ≡ b → cond b (Some u) (get_member to ms) ≡ None
        → get_member to (rename_member to name (member other u ms)) ≡ get_member name (member other u ms)
    by_test rest true same b is none = rw (same, nat_list_eq_equiv.refl) refl
    by_test rest false apart true is none = absurd (cc)
    by_test rest false apart false is none = rw (apart, is) (rest none)

pub get_member-rename_old : (to name : List ℕ) (ms : Members) → bytes_eq name to ≡ false
    → get_member name (rename_member to name ms) ≡ None
get_member-rename_old to name no_members apart = refl
get_member-rename_old to name (member other u ms) apart = grind (arith, get_member-rename_old to name ms apart)

-- the order of the members

pub names_in-put : (u : Tree) (name : List ℕ) (ms : Members) → names_in (put_member u name ms)
    ≡ cond (is_some (get_member name ms)) (names_in ms) (names_in ms ++ name ∷ [])
names_in-put u name no_members = refl
names_in-put u name (member other v ms) = grind (arith, names_in-put u name ms)

pub names_in-put_found : (u t : Tree) (name : List ℕ) (ms : Members) → get_member name ms ≡ Some t
    → names_in (put_member u name ms) ≡ names_in ms
names_in-put_found u t name ms found =
    names_in-put u name ms ∙ ap (λ o. cond (is_some o) (names_in ms) (names_in ms ++ name ∷ [])) found

pub names_in-without : (name : List ℕ) (ms : Members)
    → names_in (without_member name ms) ≡ filter (λ n. not (bytes_eq name n)) (names_in ms)
names_in-without name no_members = refl
names_in-without name (member other u ms) = grind (arith, names_in-without name ms)

pub names_in-rename : (to name : List ℕ) (ms : Members)
    → names_in (rename_member to name ms) ≡ map (λ n. cond (bytes_eq name n) to n) (names_in ms)
names_in-rename to name no_members = refl
names_in-rename to name (member other u ms) = ap (λ ns. cond (bytes_eq name other) to other ∷ ns) (names_in-rename to name ms)

-- a value, with that of a name changed, if it was found
abbrev pub below : (Tree → Tree) → List ℕ → Tree → Option Tree → Tree
below f name t found = unwrap_or (option_map (λ u. on_object (put_member (f u) name) t) found) t

-- a path that goes on below a member, of which a value is also set if the path ends there
module _ (name : List ℕ) where
  pub edit_at-in : (f : List ℕ → Members → Members) (path : List (List ℕ)) (ms : Members) → 0 < length path
      → edit_at f (name ∷ path) (object ms) ≡ below (edit_at f path) name (object ms) (get_member name ms)
  edit_at-in f [] ms more = absurd (omega arith)
  edit_at-in f (next ∷ path) ms more = refl

  pub set_at-in : (path : List (List ℕ)) (u : Tree) (ms : Members) (v : Tree) → get_member name ms ≡ Some v
      → set_at (name ∷ path) u (object ms) ≡ object (put_member (set_at path u v) name ms)
  set_at-in [] u ms v found = refl
  set_at-in (next ∷ path) u ms v found = ap (below (edit_at (put_member u) (next ∷ path)) name (object ms)) found

  pub has_place-in : (path : List (List ℕ)) (ms : Members) (v : Tree) → get_member name ms ≡ Some v
      → has_place (name ∷ path) (object ms) ≡ has_place path v
  has_place-in [] ms v found = refl
  has_place-in (next ∷ path) ms v found = ap (λ o. unwrap_or (option_map (has_place (next ∷ path)) o) false) found

  pub has_place-absent : (path : List (List ℕ)) (ms : Members) → 0 < length path → get_member name ms ≡ None
      → has_place (name ∷ path) (object ms) ≡ false
  has_place-absent [] ms more none = absurd (omega arith)
  has_place-absent (next ∷ path) ms more none = ap (λ o. unwrap_or (option_map (has_place (next ∷ path)) o) false) none

  pub is_free-in : (path : List (List ℕ)) (to : List ℕ) (ms : Members) → 0 < length path
      → is_free (name ∷ path) to (object ms) ≡ unwrap_or (option_map (is_free path to) (get_member name ms)) true
  is_free-in [] to ms more = absurd (omega arith)
  is_free-in (next ∷ path) to ms more = refl

  pub member_at-in : (path : List (List ℕ)) (ms : Members) → 0 < length path
      → member_at (name ∷ path) (object ms) ≡ option_and_then (member_at path) (get_member name ms)
  member_at-in [] ms more = absurd (omega arith)
  member_at-in (next ∷ path) ms more = refl

-- what a path finds after an edit

in_object : (f : Tree → Tree) (name : List ℕ) (path : List (List ℕ)) (t : Tree)
    → get_at (name ∷ path) (below f name t (get name t)) ≡ option_and_then (get_at path) (option_map f (get name t))
in_object f name path (object ms) = by_found (get_member name ms) refl
  where
    by_found : (o : Option Tree) → get_member name ms ≡ o
        → get_at (name ∷ path) (below f name (object ms) o) ≡ option_and_then (get_at path) (option_map f o)
    by_found None none = ap (option_and_then (get_at path)) none
    by_found (Some u) there = ap (option_and_then (get_at path)) (get_member-put (f u) name ms)
in_object f name path t = refl

get-below_apart : (f : Tree → Tree) (name q : List ℕ) (t : Tree) (o : Option Tree) → bytes_eq name q ≡ false
    → get q (below f name t o) ≡ get q t
get-below_apart f name q (object ms) (Some u) apart = get_member-put_apart (f u) name q ms apart
get-below_apart f name q t (Some u) apart = refl
get-below_apart f name q t None apart = refl

get-on_object_apart : (f : Members → Members) (q : List ℕ) (t : Tree) → ((ms : Members) → get_member q (f ms) ≡ get_member q ms)
    → get q (on_object f t) ≡ get q t
get-on_object_apart f q (object ms) keeps = keeps ms
get-on_object_apart f q t keeps = refl

pub get_at-edit_apart : (f : List ℕ → Members → Members) (test : List ℕ → List ℕ → Bool)
    → ((name q : List ℕ) (ms : Members) → test name q ≡ false → get_member q (f name ms) ≡ get_member q ms)
    → (path other : List (List ℕ)) (t : Tree) → are_apart test path other ≡ true
    → get_at other (edit_at f path t) ≡ get_at other t
get_at-edit_apart f test keeps [] other t apart = refl
get_at-edit_apart f test keeps (name ∷ path) [] t apart = absurd (cc)
get_at-edit_apart f test keeps (name ∷ []) (q ∷ other) t apart =
    ap (option_and_then (get_at other)) (get-on_object_apart (f name) q t (λ ms. keeps name q ms (not_true (test name q) apart)))
  where
    not_true : (b : Bool) → not b ≡ true → b ≡ false
    not_true true h = absurd (cc)
    not_true false h = refl
get_at-edit_apart f test keeps (name ∷ next ∷ path) (q ∷ other) t apart =
    by_test (λ u. get_at-edit_apart f test keeps (next ∷ path) other u) (bytes_eq name q) refl apart
  where
    rests : ((u : Tree) → get_at other (edit_at f (next ∷ path) u) ≡ get_at other u) → (o : Option Tree)
        → option_and_then (get_at other) (option_map (edit_at f (next ∷ path)) o) ≡ option_and_then (get_at other) o
    rests same None = refl
    rests same (Some u) = same u

    by_test : ((u : Tree) → are_apart test (next ∷ path) other ≡ true → get_at other (edit_at f (next ∷ path) u) ≡ get_at other u)
        → (b : Bool) → bytes_eq name q ≡ b → cond b (are_apart test (next ∷ path) other) true ≡ true
        → get_at (q ∷ other) (edit_at f (name ∷ next ∷ path) t) ≡ get_at (q ∷ other) t
    by_test rest true same is = subst (λ (n : List ℕ). get_at (n ∷ other) (edit_at f (name ∷ next ∷ path) t) ≡ get_at (n ∷ other) t)
        ((bytes_decides name q).0 same)
        (in_object (edit_at f (next ∷ path)) name other t ∙ rests (λ u. rest u is) (get name t))
    by_test rest false differ is = ap (option_and_then (get_at other))
        (get-below_apart (edit_at f (next ∷ path)) name q t (get name t) differ)

-- a value that was set is found
at_last : (f : Members → Members) (name : List ℕ) (u : Tree) (t : Tree) → ((ms : Members) → get_member name (f ms) ≡ Some u)
    → is_object t ≡ true → get_at (name ∷ []) (on_object f t) ≡ Some u
at_last f name u (object ms) is there = ap (option_and_then (get_at [])) (is ms)
at_last f name u t is there = absurd (cc)

pub get_at-set_at : (path : List (List ℕ)) (u t : Tree) → has_place path t ≡ true → get_at path (set_at path u t) ≡ Some u
get_at-set_at [] u t there = refl
get_at-set_at (name ∷ []) u t there = at_last (put_member u name) name u t (get_member-put u name) there
get_at-set_at (name ∷ next ∷ path) u t there =
    in_object (edit_at (put_member u) (next ∷ path)) name (next ∷ path) t
    ∙ by_found (λ v. get_at-set_at (next ∷ path) u v) (get name t) there
  where
    by_found : ((v : Tree) → has_place (next ∷ path) v ≡ true → get_at (next ∷ path) (set_at (next ∷ path) u v) ≡ Some u)
        → (o : Option Tree) → unwrap_or (option_map (has_place (next ∷ path)) o) false ≡ true
        → option_and_then (get_at (next ∷ path)) (option_map (edit_at (put_member u) (next ∷ path)) o) ≡ Some u
    by_found rest None is = absurd (cc)
    by_found rest (Some v) is = rest v is

-- a member that was removed is not
gone : (f : Members → Members) (name : List ℕ) (t : Tree) → ((ms : Members) → get_member name (f ms) ≡ None)
    → get_at (name ∷ []) (on_object f t) ≡ None
gone f name (object ms) is = ap (option_and_then (get_at [])) (is ms)
gone f name t is = refl

pub member_at-without : (path : List (List ℕ)) (t : Tree) → member_at path (edit_at without_member path t) ≡ None
member_at-without [] t = refl
member_at-without (name ∷ []) t = gone (without_member name) name t (get_member-without name)
member_at-without (name ∷ next ∷ path) t =
    in_object (edit_at without_member (next ∷ path)) name (next ∷ path) t
    ∙ by_found (λ v. member_at-without (next ∷ path) v) (get name t)
  where
    by_found : ((v : Tree) → member_at (next ∷ path) (edit_at without_member (next ∷ path) v) ≡ None) → (o : Option Tree)
        → option_and_then (get_at (next ∷ path)) (option_map (edit_at without_member (next ∷ path)) o) ≡ None
    by_found rest None = refl
    by_found rest (Some v) = rest v

-- a member is found by its new name, if that was free
renamed : (to name : List ℕ) (t : Tree) → get_at (to ∷ []) t ≡ None
    → get_at (to ∷ []) (on_object (rename_member to name) t) ≡ get_at (name ∷ []) t
renamed to name (object ms) none = ap (option_and_then (get_at [])) (get_member-rename to name ms (bare (get_member to ms) none))
  where
    bare : (o : Option Tree) → option_and_then (get_at []) o ≡ None → o ≡ None
    bare None is = refl
    bare (Some u) is = absurd (cc)
renamed to name t none = refl

get_at-with_last : (name : List ℕ) (path : List (List ℕ)) (to : List ℕ) (t : Tree)
    → get_at (with_last (name ∷ path) to) t ≡ member_at (with_last (name ∷ path) to) t
get_at-with_last name [] to t = refl
get_at-with_last name (next ∷ path) to t = refl

pub member_at-rename : (path : List (List ℕ)) (to : List ℕ) (t : Tree) → member_at (with_last path to) t ≡ None
    → member_at (with_last path to) (edit_at (rename_member to) path t) ≡ member_at path t
member_at-rename [] to t free = refl
member_at-rename (name ∷ []) to t free = renamed to name t free
member_at-rename (name ∷ next ∷ path) to t free =
    in_object (edit_at (rename_member to) (next ∷ path)) name (with_last (next ∷ path) to) t
    ∙ by_found (λ v. member_at-rename (next ∷ path) to v) (get name t) free
  where
    by_found : ((v : Tree) → member_at (with_last (next ∷ path) to) v ≡ None
        → member_at (with_last (next ∷ path) to) (edit_at (rename_member to) (next ∷ path) v) ≡ member_at (next ∷ path) v)
        → (o : Option Tree) → option_and_then (get_at (with_last (next ∷ path) to)) o ≡ None
        → option_and_then (get_at (with_last (next ∷ path) to)) (option_map (edit_at (rename_member to) (next ∷ path)) o)
        ≡ option_and_then (get_at (next ∷ path)) o
    by_found rest None none = refl
    by_found rest (Some v) none =
        get_at-with_last next path to _ ∙ rest v (sym (get_at-with_last next path to v) ∙ none)

-- a name given anew changes nothing
below-same : (f : Tree → Tree) (name : List ℕ) (t : Tree) → ((u : Tree) → f u ≡ u) → below f name t (get name t) ≡ t
below-same f name (object ms) same = by_found (get_member name ms) refl
  where
    by_found : (o : Option Tree) → get_member name ms ≡ o → below f name (object ms) o ≡ object ms
    by_found None none = refl
    by_found (Some u) there = ap object (ap (λ v. put_member v name ms) (same u) ∙ put_member-own name ms u there)
below-same f name t same = refl

on_object-same : (f : Members → Members) (t : Tree) → ((ms : Members) → f ms ≡ ms) → on_object f t ≡ t
on_object-same f (object ms) same = ap object (same ms)
on_object-same f t same = refl

pub edit_at-rename_own : (path : List (List ℕ)) (to : List ℕ) (t : Tree) → with_last path to ≡ path → edit_at (rename_member to) path t ≡ t
edit_at-rename_own [] to t own = refl
edit_at-rename_own (name ∷ []) to t own =
    let same : name ≡ to = cc in on_object-same (rename_member to name) t (λ ms. rename_member-own to name ms same)
edit_at-rename_own (name ∷ next ∷ path) to t own =
    let rest : with_last (next ∷ path) to ≡ next ∷ path = cc in
    below-same (edit_at (rename_member to) (next ∷ path)) name t (λ u. edit_at-rename_own (next ∷ path) to u rest)

-- every other path finds what it found

pub get_at-set_apart : (path other : List (List ℕ)) (u t : Tree) → are_apart bytes_eq path other ≡ true
    → get_at other (set_at path u t) ≡ get_at other t
get_at-set_apart [] other u t apart = absurd (cc)
get_at-set_apart (name ∷ path) other u t apart =
    get_at-edit_apart (put_member u) bytes_eq (get_member-put_apart u) (name ∷ path) other t apart

pub get_at-without_apart : (path other : List (List ℕ)) (t : Tree) → are_apart bytes_eq path other ≡ true
    → get_at other (edit_at without_member path t) ≡ get_at other t
get_at-without_apart path other t apart = get_at-edit_apart without_member bytes_eq get_member-without_apart path other t apart

pub get_at-rename_apart : (path other : List (List ℕ)) (to : List ℕ) (t : Tree)
    → are_apart (λ name q. bytes_eq name q || bytes_eq to q) path other ≡ true
    → get_at other (edit_at (rename_member to) path t) ≡ get_at other t
get_at-rename_apart path other to t apart =
    get_at-edit_apart (rename_member to) (λ name q. bytes_eq name q || bytes_eq to q)
    (λ name q ms differ. get_member-rename_apart to name q ms (neither (bytes_eq name q) (bytes_eq to q) differ).0
    (neither (bytes_eq name q) (bytes_eq to q) differ).1) path other t apart
  where
    neither : (a b : Bool) → (a || b) ≡ false → (a ≡ false) × (b ≡ false)
    neither true b h = absurd (cc)
    neither false b h = (refl, h)

-- what a path finds is less deep
depth-get_member : (name : List ℕ) (ms : Members) (u : Tree) → get_member name ms ≡ Some u → (size u).1 + 1 ≤ (size_in ms).1
depth-get_member name no_members u found = absurd (cc)
depth-get_member name (member other t ms) u found = by_test (depth-get_member name ms u) (bytes_eq name other) found
  where
    by_test : (get_member name ms ≡ Some u → (size u).1 + 1 ≤ (size_in ms).1) → (b : Bool) → cond b (Some t) (get_member name ms) ≡ Some u
        → (size u).1 + 1 ≤ max ((size t).1 + 1) (size_in ms).1
    by_test rest true is = let same : t ≡ u = cc in omega (arith, ap (λ v. (size v).1) same)
    by_test rest false is = omega (arith, rest is)

depth-get : (name : List ℕ) (t u : Tree) → get name t ≡ Some u → (size u).1 + 1 ≤ (size t).1
depth-get name (object ms) u found = depth-get_member name ms u found
depth-get name t u found = absurd (cc)

pub depth-get_at : (path : List (List ℕ)) (t u : Tree) → get_at path t ≡ Some u → (size u).1 + length path ≤ (size t).1
depth-get_at [] t u found = let same : t ≡ u = cc in omega (arith, ap (λ v. (size v).1) same)
depth-get_at (name ∷ path) t u found = by_found (λ v. depth-get_at path v u) (get name t) refl found
  where
    by_found : ((v : Tree) → get_at path v ≡ Some u → (size u).1 + length path ≤ (size v).1) → (o : Option Tree) → get name t ≡ o
        → option_and_then (get_at path) o ≡ Some u → (size u).1 + length (name ∷ path) ≤ (size t).1
    by_found rest None is there = absurd (cc)
    by_found rest (Some v) is there = omega (arith, rest v there, depth-get name t v is)
