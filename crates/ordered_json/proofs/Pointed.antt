-- For callers: what pointers find after an edit.
use Rattle.std.proofs.Common.{◌≡◌, ℕ, zero, suc, ◌==◌, List, [], ◌∷◌, ◌++◌, Option, Some, None, option_map, option_and_then, Ok}
use Rattle.std.proofs.Common.{Err, ◌+◌, length, nat_le}
use Rattle.std.proofs.Common.{cond, Bool, true, false, ◌||◌, refl, sym, ap, ◌∙◌, arith}
use Rattle.std.specs.Cmp.Lexicographic.{bytes_decides, nat_list_eq_equiv}
use Rattle.std.proofs.lemmas.Bool.{eqb-false}
use Rattle.std.specs.Option.{ok_or}
use Rattle.std.specs.Result.{result_unwrap_or}
use Rattle.std.specs.Str.{bytes_eq}
use Rattle.json.specs.Json.{Json, null, boolean, number, string, array, object, Items, no_items, item, Members, no_members, member}
use Rattle.json.specs.Find.{get_item}
use Rattle.json.specs.Tree.{depth}
use Rattle.ordered_json.specs.Edits.{Edited, by_names, edit_at, edit_found, edit_parent}
use Rattle.ordered_json.specs.Edits.{put_at, put_back, put_child, put_item, set_at, set_by}
use Rattle.ordered_json.specs.Pointers.{names, index, child, find_member, get_at, pointed, change_at, change_child}
use Rattle.ordered_json.specs.Pointers.{change_member, change_item, change_items}
use Rattle.ordered_json.specs.Read.{put}
use Rattle.ordered_json.specs.declared.edit.EditError.TheVariants.{OutOfRange, TooDeep}
use Rattle.ordered_json.specs.declared.read.TheConstants.{MAX_DEPTH}
use Rattle.ordered_json.proofs.Changes.{by_names-append, change_at-found, get_at-append, put_at-append}

-- a change of the value that is found

find_member-change : (f : Json → Json) (name : List ℕ) (ms : Members)
    → find_member name (change_member f name ms) ≡ option_map f (find_member name ms)
find_member-change f name no_members = refl
find_member-change f name (member other j ms) = grind (arith, find_member-change f name ms)

get_item-change : (f : Json → Json) (n : ℕ) (js : Items) → get_item n (change_item f n js) ≡ option_map f (get_item n js)
get_item-change f n no_items = refl
get_item-change f zero (item j js) = refl
get_item-change f (suc n) (item j js) = get_item-change f n js

child-change : (f : Json → Json) (name : List ℕ) (j : Json) → child name (change_child f name j) ≡ option_map f (child name j)
child-change f name null = refl
child-change f name (boolean b) = refl
child-change f name (number s) = refl
child-change f name (string s) = refl
child-change f name (array js) = by_index (index name)
  where
    by_index : (o : Option ℕ)
        → option_and_then (λ n. get_item n (change_items f o js)) o ≡ option_map f (option_and_then (λ n. get_item n js) o)
    by_index None = refl
    by_index (Some n) = get_item-change f n js
child-change f name (object ms) = find_member-change f name ms

pub get_at-change : (f : Json → Json) (path : List (List ℕ)) (j k : Json) → get_at path j ≡ Some k
    → get_at path (change_at f path j) ≡ Some (f k)
get_at-change f [] j k there = let same : j ≡ k = cc in ap (λ m. Some (f m)) same
get_at-change f (name ∷ path) j k there =
    ap (option_and_then (get_at path)) (child-change (change_at f path) name j)
    ∙ by_child (child name j) there (λ m is. get_at-change f path m k is)
  where
    by_child : (o : Option Json) → option_and_then (get_at path) o ≡ Some k
        → ((m : Json) → get_at path m ≡ Some k → get_at path (change_at f path m) ≡ Some (f k))
        → option_and_then (get_at path) (option_map (change_at f path) o) ≡ Some (f k)
    by_child None is below = absurd (cc)
    by_child (Some m) is below = below m is

-- a value that is put is found, by a name that is not `-`

find_member-put : (name : List ℕ) (u : Json) (ms : Members) → find_member name (put name u ms) ≡ Some u
find_member-put name u no_members = rw (nat_list_eq_equiv.refl name) refl
find_member-put name u (member other j ms) = by_test (find_member-put name u ms) (bytes_eq name other) refl
  where
    by_test : find_member name (put name u ms) ≡ Some u → (b : Bool) → bytes_eq name other ≡ b
        → find_member name (cond b (member other u ms) (member other j (put name u ms))) ≡ Some u
    by_test rest true same = rw same refl
    by_test rest false apart = rw apart rest

get_item-put : (u : Json) (n : ℕ) (js ks : Items) → put_item u n js ≡ Some ks → get_item n ks ≡ Some u
get_item-put u zero no_items ks is = let same : item u no_items ≡ ks = cc in ap (get_item 0) (sym same)
get_item-put u (suc n) no_items ks is = absurd (cc)
get_item-put u zero (item j js) ks is = let same : item u js ≡ ks = cc in ap (get_item 0) (sym same)
get_item-put u (suc n) (item j js) ks is = by_rest (put_item u n js) is (λ ms rest. get_item-put u n js ms rest)
  where
    by_rest : (o : Option Items) → option_map (item j) o ≡ Some ks → ((ms : Items) → o ≡ Some ms → get_item n ms ≡ Some u)
        → get_item (suc n) ks ≡ Some u
    by_rest None h below = absurd (cc)
    by_rest (Some ms) h below = let same : item j ms ≡ ks = cc in ap (get_item (suc n)) (sym same) ∙ below ms refl

child-put : (u : Json) (name : List ℕ) (j k : Json) → bytes_eq name (45 ∷ []) ≡ false → put_child u name j ≡ Ok k → child name k ≡ Some u
child-put u name null k apart is = absurd (cc)
child-put u name (boolean b) k apart is = absurd (cc)
child-put u name (number s) k apart is = absurd (cc)
child-put u name (string s) k apart is = absurd (cc)
child-put u name (array js) k apart is = by_index (index name) refl (rw apart at is)
  where
    by_items : (n : ℕ) → index name ≡ Some n → (o : Option Items) → put_item u n js ≡ o → ok_or (option_map array o) OutOfRange ≡ Ok k
        → child name k ≡ Some u
    by_items n index_is None put_is h = absurd (cc)
    by_items n index_is (Some ks) put_is h =
        let same : array ks ≡ k = cc in
        ap (child name) (sym same) ∙ ap (option_and_then (λ m. get_item m ks)) index_is ∙ get_item-put u n js ks put_is

    by_index : (o : Option ℕ) → index name ≡ o
        → ok_or (option_map array (option_and_then (λ n. put_item u n js) o)) OutOfRange ≡ Ok k → child name k ≡ Some u
    by_index None index_is h = absurd (cc)
    by_index (Some n) index_is h = by_items n index_is (put_item u n js) refl h
child-put u name (object ms) k apart is =
    let same : object (put name u ms) ≡ k = cc in ap (child name) (sym same) ∙ find_member-put name u ms

-- an edit that was done: the value before and after it, and what names find then
pub record IsEdit (f : Json → Edited) (path : List (List ℕ)) (j k : Json) : Type 0 where
  pub before : Json
  pub after : Json
  pub found : get_at path j ≡ Some before
  pub edit : f before ≡ Ok after
  pub document : k ≡ change_at (λ _. after) path j
  pub left : get_at path k ≡ Some after

pub edited_at : (f : Json → Edited) (path : List (List ℕ)) (j k : Json) → edit_at f path j ≡ Ok k → IsEdit f path j k
edited_at f path j k done = by_found (get_at path j) refl done
  where
    by_edit : (p : Json) → get_at path j ≡ Some p → (r : Edited) → f p ≡ r → put_back path j r ≡ Ok k → IsEdit f path j k
    by_edit p there (Err e) edit_is h = absurd (cc)
    by_edit p there (Ok m) edit_is h =
        let same : k ≡ change_at (λ _. m) path j = cc in
        record {
          before = p;
          after = m;
          found = there;
          edit = edit_is;
          document = same;
          left = ap (get_at path) same ∙ get_at-change (λ _. m) path j p there;
        }

    by_found : (o : Option Json) → get_at path j ≡ o → put_back path j (edit_found f o) ≡ Ok k → IsEdit f path j k
    by_found None there h = absurd (cc)
    by_found (Some p) there h = by_edit p there (f p) refl h

-- by the names of a pointer
module _ (f : List ℕ → Json → Edited) (text : List ℕ) (path : List (List ℕ)) (name : List ℕ) (j k : Json)
    (is : names text ≡ Some (path ++ name ∷ [])) (done : by_names (edit_parent f) (names text) j ≡ Ok k) where
  pub edited : IsEdit (f name) path j k
  edited = edited_at (f name) path j k (sym (by_names-append f text path name j is) ∙ done)

  pub pointed-edited : (more : List ℕ) (to : List ℕ) → names more ≡ Some (path ++ to ∷ []) → pointed more k ≡ child to edited.after
  pointed-edited more to more_is =
      ap (option_and_then (λ ns. get_at ns k)) more_is ∙ get_at-append path to k ∙ ap (option_and_then (child to)) edited.left

pub set_at-done : (text : List ℕ) (path : List (List ℕ)) (name : List ℕ) (u j k : Json) → names text ≡ Some (path ++ name ∷ [])
    → set_at text u j ≡ Ok k → by_names (edit_parent (put_child u)) (names text) j ≡ Ok k
set_at-done text path name u j k is done =
    by_names-append (put_child u) text path name j is ∙ sym (put_at-append u path name j)
    ∙ by_test (nat_le (length (path ++ name ∷ []) + depth u) MAX_DEPTH) (sym (ap (λ o. by_names (set_by u) o j) is) ∙ done)
  where
    by_test : (b : Bool) → cond b (put_at u (path ++ name ∷ []) j) (Err TooDeep) ≡ Ok k → put_at u (path ++ name ∷ []) j ≡ Ok k
    by_test true h = h
    by_test false h = absurd (cc)

-- what was set is there
pub pointed-set_at : (text : List ℕ) (path : List (List ℕ)) (name : List ℕ) (u j k : Json) → names text ≡ Some (path ++ name ∷ [])
    → bytes_eq name (45 ∷ []) ≡ false → set_at text u j ≡ Ok k → pointed text k ≡ Some u
pointed-set_at text path name u j k is apart done =
    let by = set_at-done text path name u j k is done in let e = edited (put_child u) text path name j k is by in
    pointed-edited (put_child u) text path name j k is by text name is ∙ child-put u name e.before e.after apart e.edit

-- ---- what every other pointer finds

abbrev pub same_index : Option ℕ → Option ℕ → Bool
same_index None o = false
same_index (Some n) None = false
same_index (Some n) (Some m) = n == m

-- whether two names are one child: they are equal, or the same index
abbrev pub is_same : List ℕ → List ℕ → Bool
is_same name q = bytes_eq name q || same_index (index name) (index q)

-- whether names lead neither to the value that others lead to, nor into it, nor to one that it is in
abbrev pub lead_apart : List (List ℕ) → List (List ℕ) → Bool
lead_apart [] other = false
lead_apart (name ∷ path) [] = false
lead_apart (name ∷ path) (q ∷ other) = cond (is_same name q) (lead_apart path other) true

-- the value of a name is changed only as f changes it, and of another name not at all
module _ (G : Json → Option Json) (f : Json → Json) (keeps : (k : Json) → G (f k) ≡ G k) where
  find_member-change_kept : (name q : List ℕ) (ms : Members)
      → option_and_then G (find_member q (change_member f name ms)) ≡ option_and_then G (find_member q ms)
  find_member-change_kept name q no_members = refl
  find_member-change_kept name q (member other j ms) =
      by_tests (find_member-change_kept name q ms) (bytes_eq name other) (bytes_eq q other) refl
    where
      by_tests : option_and_then G (find_member q (change_member f name ms)) ≡ option_and_then G (find_member q ms)
          → (a b : Bool) → bytes_eq q other ≡ b
          → option_and_then G (find_member q (cond a (member other (f j) ms) (member other j (change_member f name ms))))
          ≡ option_and_then G (cond b (Some j) (find_member q ms))
      by_tests rest true true is = rw is (keeps j)
      by_tests rest true false is = rw is refl
      by_tests rest false true is = rw is refl
      by_tests rest false false is = rw is rest

  get_item-change_kept : (n m : ℕ) (js : Items)
      → option_and_then G (get_item m (change_item f n js)) ≡ option_and_then G (get_item m js)
  get_item-change_kept n m no_items = refl
  get_item-change_kept zero zero (item j js) = keeps j
  get_item-change_kept zero (suc m) (item j js) = refl
  get_item-change_kept (suc n) zero (item j js) = refl
  get_item-change_kept (suc n) (suc m) (item j js) = get_item-change_kept n m js

  pub child-change_kept : (name q : List ℕ) (j : Json)
      → option_and_then G (child q (change_child f name j)) ≡ option_and_then G (child q j)
  child-change_kept name q null = refl
  child-change_kept name q (boolean b) = refl
  child-change_kept name q (number s) = refl
  child-change_kept name q (string s) = refl
  child-change_kept name q (array js) = by_index (index name) (index q)
    where
      by_index : (o p : Option ℕ)
          → option_and_then G (option_and_then (λ m. get_item m (change_items f o js)) p)
          ≡ option_and_then G (option_and_then (λ m. get_item m js) p)
      by_index None p = refl
      by_index (Some n) None = refl
      by_index (Some n) (Some m) = get_item-change_kept n m js
  child-change_kept name q (object ms) = find_member-change_kept name q ms

or_false : (a b : Bool) → (a || b) ≡ false → (a ≡ false) × (b ≡ false)
or_false true b none = absurd (cc)
or_false false b none = (refl, none)

module _ (name q : List ℕ) (apart : is_same name q ≡ false) where
  pub bytes_apart : bytes_eq name q ≡ false
  bytes_apart = (or_false (bytes_eq name q) (same_index (index name) (index q)) apart).0

  index_apart : same_index (index name) (index q) ≡ false
  index_apart = (or_false (bytes_eq name q) (same_index (index name) (index q)) apart).1

  pub other_name : (other : List ℕ) → bytes_eq name other ≡ true → bytes_eq q other ≡ false
  other_name other same = by_test (bytes_eq q other) refl
    where
      by_test : (b : Bool) → bytes_eq q other ≡ b → b ≡ false
      by_test true alike = sym (ap (bytes_eq name) ((bytes_decides q other).0 alike) ∙ same) ∙ bytes_apart
      by_test false alike = refl

  find_member-change_apart : (f : Json → Json) (ms : Members) → find_member q (change_member f name ms) ≡ find_member q ms
  find_member-change_apart f no_members = refl
  find_member-change_apart f (member other j ms) =
      grind (arith, other_name other, find_member-change_apart f ms)

  find_member-put_apart : (u : Json) (ms : Members) → find_member q (put name u ms) ≡ find_member q ms
  find_member-put_apart u no_members = rw (nat_list_eq_equiv.symm q name ∙ bytes_apart) refl
  find_member-put_apart u (member other j ms) = grind (arith, other_name other, find_member-put_apart u ms)

  get_item-change_apart : (f : Json → Json) (n m : ℕ) (js : Items) → (n ≡ m → ⊥) → get_item m (change_item f n js) ≡ get_item m js
  get_item-change_apart f n m no_items differ = refl
  get_item-change_apart f zero zero (item j js) differ = absurd (differ refl)
  get_item-change_apart f zero (suc m) (item j js) differ = refl
  get_item-change_apart f (suc n) zero (item j js) differ = refl
  get_item-change_apart f (suc n) (suc m) (item j js) differ = get_item-change_apart f n m js (λ same. differ (ap suc same))

  get_item-put_apart : (u : Json) (n m : ℕ) (js ks : Items) → (n ≡ m → ⊥) → put_item u n js ≡ Some ks → get_item m ks ≡ get_item m js
  get_item-put_apart u zero zero js ks differ is = absurd (differ refl)
  get_item-put_apart u zero (suc m) no_items ks differ is = let same : item u no_items ≡ ks = cc in ap (get_item (suc m)) (sym same)
  get_item-put_apart u zero (suc m) (item j js) ks differ is = let same : item u js ≡ ks = cc in ap (get_item (suc m)) (sym same)
  get_item-put_apart u (suc n) m no_items ks differ is = absurd (cc)
  get_item-put_apart u (suc n) zero (item j js) ks differ is = by_rest (put_item u n js) is
    where
      by_rest : (o : Option Items) → option_map (item j) o ≡ Some ks → get_item 0 ks ≡ Some j
      by_rest None h = absurd (cc)
      by_rest (Some ms) h = let same : item j ms ≡ ks = cc in ap (get_item 0) (sym same)
  get_item-put_apart u (suc n) (suc m) (item j js) ks differ is =
      by_rest (put_item u n js) is (λ ms rest. get_item-put_apart u n m js ms (λ same. differ (ap suc same)) rest)
    where
      by_rest : (o : Option Items) → option_map (item j) o ≡ Some ks → ((ms : Items) → o ≡ Some ms → get_item m ms ≡ get_item m js)
          → get_item (suc m) ks ≡ get_item m js
      by_rest None h below = absurd (cc)
      by_rest (Some ms) h below = let same : item j ms ≡ ks = cc in ap (get_item (suc m)) (sym same) ∙ below ms refl

  pub child-change_apart : (f : Json → Json) (j : Json) → child q (change_child f name j) ≡ child q j
  child-change_apart f null = refl
  child-change_apart f (boolean b) = refl
  child-change_apart f (number s) = refl
  child-change_apart f (string s) = refl
  child-change_apart f (array js) = by_index (index name) (index q) index_apart
    where
      by_index : (o p : Option ℕ) → same_index o p ≡ false
          → option_and_then (λ m. get_item m (change_items f o js)) p ≡ option_and_then (λ m. get_item m js) p
      by_index None p differ = refl
      by_index (Some n) None differ = refl
      by_index (Some n) (Some m) differ = get_item-change_apart f n m js (eqb-false n m differ)
  child-change_apart f (object ms) = find_member-change_apart f ms

  child-put_apart : (u j k : Json) → bytes_eq name (45 ∷ []) ≡ false → put_child u name j ≡ Ok k → child q k ≡ child q j
  child-put_apart u null k dash is = absurd (cc)
  child-put_apart u (boolean b) k dash is = absurd (cc)
  child-put_apart u (number s) k dash is = absurd (cc)
  child-put_apart u (string s) k dash is = absurd (cc)
  child-put_apart u (array js) k dash is = by_index (index name) index_apart (rw dash at is)
    where
      kept : (n : ℕ) (ks : Items) → put_item u n js ≡ Some ks → (p : Option ℕ) → same_index (Some n) p ≡ false
          → option_and_then (λ m. get_item m ks) p ≡ option_and_then (λ m. get_item m js) p
      kept n ks put_is None differ = refl
      kept n ks put_is (Some m) differ = get_item-put_apart u n m js ks (eqb-false n m differ) put_is

      by_put : (n : ℕ) (o : Option Items) → put_item u n js ≡ o → same_index (Some n) (index q) ≡ false
          → ok_or (option_map array o) OutOfRange ≡ Ok k → child q k ≡ child q (array js)
      by_put n None put_is differ h = absurd (cc)
      by_put n (Some ks) put_is differ h =
          let same : array ks ≡ k = cc in ap (child q) (sym same) ∙ kept n ks put_is (index q) differ

      by_index : (o : Option ℕ) → same_index o (index q) ≡ false
          → ok_or (option_map array (option_and_then (λ n. put_item u n js) o)) OutOfRange ≡ Ok k → child q k ≡ child q (array js)
      by_index None differ h = absurd (cc)
      by_index (Some n) differ h = by_put n (put_item u n js) refl differ h
  child-put_apart u (object ms) k dash is =
      let same : object (put name u ms) ≡ k = cc in ap (child q) (sym same) ∙ find_member-put_apart u ms

-- an edit by a last name, which keeps what other names find
get_at-edit_apart : (f : Json → Json) (name to : List ℕ)
    → ((k : Json) (q : List ℕ) → is_same name q ≡ false → is_same to q ≡ false → child q (f k) ≡ child q k)
    → (path other : List (List ℕ)) (j : Json) → lead_apart (path ++ name ∷ []) other ≡ true → lead_apart (path ++ to ∷ []) other ≡ true
    → get_at other (change_at f path j) ≡ get_at other j
get_at-edit_apart f name to keeps [] [] j apart to_apart = absurd (cc)
get_at-edit_apart f name to keeps [] (q ∷ other) j apart to_apart =
    by_test (is_same name q) refl (is_same to q) refl apart to_apart
  where
    by_test : (b : Bool) → is_same name q ≡ b → (c : Bool) → is_same to q ≡ c → cond b false true ≡ true → cond c false true ≡ true
        → get_at (q ∷ other) (f j) ≡ get_at (q ∷ other) j
    by_test true same c is h i = absurd (cc)
    by_test false differ true is h i = absurd (cc)
    by_test false differ false is h i = ap (option_and_then (get_at other)) (keeps j q differ is)
get_at-edit_apart f name to keeps (next ∷ path) [] j apart to_apart = absurd (cc)
get_at-edit_apart f name to keeps (next ∷ path) (q ∷ other) j apart to_apart =
    by_test (is_same next q) refl apart to_apart (λ h i k. get_at-edit_apart f name to keeps path other k h i)
  where
    by_test : (b : Bool) → is_same next q ≡ b → cond b (lead_apart (path ++ name ∷ []) other) true ≡ true
        → cond b (lead_apart (path ++ to ∷ []) other) true ≡ true
        → (lead_apart (path ++ name ∷ []) other ≡ true → lead_apart (path ++ to ∷ []) other ≡ true
        → (k : Json) → get_at other (change_at f path k) ≡ get_at other k)
        → get_at (q ∷ other) (change_at f (next ∷ path) j) ≡ get_at (q ∷ other) j
    by_test true same h i below = child-change_kept (get_at other) (change_at f path) (below h i) next q j
    by_test false differ h i below = ap (option_and_then (get_at other)) (child-change_apart next q differ (change_at f path) j)

-- every other pointer finds what it found before an edit that keeps what it finds there
pub pointed-edit_apart : (f : List ℕ → Json → Edited) (text other : List ℕ) (path more : List (List ℕ)) (name to : List ℕ) (j k : Json)
    → names text ≡ Some (path ++ name ∷ []) → names other ≡ Some more
    → ((q : List ℕ) → is_same name q ≡ false → is_same to q ≡ false → (p m : Json) → f name p ≡ Ok m → child q m ≡ child q p)
    → lead_apart (path ++ name ∷ []) more ≡ true → lead_apart (path ++ to ∷ []) more ≡ true
    → by_names (edit_parent f) (names text) j ≡ Ok k → pointed other k ≡ pointed other j
pointed-edit_apart f text other path more name to j k is more_is keeps apart to_apart done =
    let e = edited f text path name j k is done in
    ap (option_and_then (λ ns. get_at ns k)) more_is
    ∙ ap (get_at more) (e.document ∙ change_at-found (λ _. e.after) after path j (λ n found.
    ap (λ r. result_unwrap_or r e.before) (sym e.edit) ∙ ap after (by_some (sym e.found ∙ found))))
    ∙ get_at-edit_apart after name to kept path more j apart to_apart ∙ sym (ap (option_and_then (λ ns. get_at ns j)) more_is)
  where
    after : Json → Json
    after p = result_unwrap_or (f name p) p

    by_some : {a b : Json} → Some a ≡ Some b → a ≡ b
    by_some e = cc

    kept : (p : Json) (q : List ℕ) → is_same name q ≡ false → is_same to q ≡ false → child q (after p) ≡ child q p
    kept p q differ to_differ = by_result (f name p) refl
      where
        by_result : (r : Edited) → f name p ≡ r → child q (result_unwrap_or r p) ≡ child q p
        by_result (Ok m) is = keeps q differ to_differ p m is
        by_result (Err e) is = refl

pub pointed-set_apart : (text other : List ℕ) (path more : List (List ℕ)) (name : List ℕ) (u j k : Json)
    → names text ≡ Some (path ++ name ∷ []) → names other ≡ Some more → bytes_eq name (45 ∷ []) ≡ false
    → lead_apart (path ++ name ∷ []) more ≡ true → set_at text u j ≡ Ok k → pointed other k ≡ pointed other j
pointed-set_apart text other path more name u j k is more_is dash apart done =
    pointed-edit_apart (put_child u) text other path more name name j k is more_is
    (λ q differ _ p m. child-put_apart name q differ u p m dash) apart apart (set_at-done text path name u j k is done)
