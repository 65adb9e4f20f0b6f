-- For callers: what pointers find after a removal, a renaming and a move.
use Rattle.std.proofs.Common.{◌≡◌, List, [], ◌∷◌, ◌++◌, Option, Some, None, option_and_then}
use Rattle.std.proofs.Common.{option_map, unwrap_or, is_some, Ok, Err, cond, Bool, true, false}
use Rattle.std.proofs.Common.{refl, sym, ap, ◌∙◌, arith, ℕ}
use Rattle.std.specs.Cmp.Lexicographic.{bytes_decides, nat_list_eq_equiv}
use Rattle.std.specs.Option.{ok_or}
use Rattle.std.specs.Str.{bytes_eq}
use Rattle.json.specs.Json.{Json, null, boolean, number, string, array, object, Items, Members, no_members, member}
use Rattle.ordered_json.specs.Edits.{Edited, by_names, edit_found, edit_parent, put_back, without_member, without_child, remove_at}
use Rattle.ordered_json.specs.Edits.{rename_member, rename_child, rename_at, put_beside, moved, move_child, move_at}
use Rattle.ordered_json.specs.Pointers.{names, by_kind, child, find_member, get_at, pointed}
use Rattle.ordered_json.specs.declared.edit.EditError.TheVariants.{Absent, Taken}
use Rattle.ordered_json.proofs.Changes.{by_names-append, get_at-append, none-found}
use Rattle.ordered_json.proofs.Pointed.{bytes_apart, edited, is_same, lead_apart, other_name, pointed-edit_apart, pointed-edited}

-- what another name finds

module _ (name q : List ℕ) (apart : is_same name q ≡ false) where
  find_member-without_apart : (ms rest : Members) → without_member name ms ≡ Some rest → find_member q rest ≡ find_member q ms
  find_member-without_apart no_members rest is = absurd (cc)
  find_member-without_apart (member other j ms) rest is =
      by_test (bytes_eq name other) refl (without_member name ms) is (find_member-without_apart ms)
    where
      by_test : (b : Bool) → bytes_eq name other ≡ b → (o : Option Members) → cond b (Some ms) (option_map (member other j) o) ≡ Some rest
          → ((more : Members) → o ≡ Some more → find_member q more ≡ find_member q ms)
          → find_member q rest ≡ find_member q (member other j ms)
      by_test true same o h below =
          let rest_is : rest ≡ ms = cc in rw (other_name name q apart other same) (ap (find_member q) rest_is)
      by_test false differ None h below = absurd (cc)
      by_test false differ (Some more) h below =
          let rest_is : rest ≡ member other j more = cc in
          ap (find_member q) rest_is ∙ ap (cond (bytes_eq q other) (Some j)) (below more refl)

  find_member-put_beside : (behind : Bool) (j : Json) (other : List ℕ) (ms : Members)
      → find_member q (put_beside behind name j other ms) ≡ find_member q ms
  find_member-put_beside behind j other no_members = refl
  find_member-put_beside true j other (member k i ms) =
      grind (arith, find_member-put_beside true j other ms, nat_list_eq_equiv.symm q name, bytes_apart name q apart)
  find_member-put_beside false j other (member k i ms) =
      grind (arith, find_member-put_beside false j other ms, nat_list_eq_equiv.symm q name, bytes_apart name q apart)

  find_member-rename_apart : (to : List ℕ) → is_same to q ≡ false → (ms : Members)
      → find_member q (rename_member to name ms) ≡ find_member q ms
  find_member-rename_apart to to_apart no_members = refl
  find_member-rename_apart to to_apart (member other j ms) =
      grind (
        arith,
        find_member-rename_apart to to_apart ms,
        other_name name q apart other,
        nat_list_eq_equiv.symm q to,
        bytes_apart to q to_apart,
      )

  child-without_apart : (ms : Members) (m : Json) → without_child name (object ms) ≡ Ok m → child q m ≡ find_member q ms
  child-without_apart ms m is = by_rest (without_member name ms) refl is
    where
      by_rest : (o : Option Members) → without_member name ms ≡ o → ok_or (option_map object o) Absent ≡ Ok m → child q m ≡ find_member q ms
      by_rest None without h = absurd (cc)
      by_rest (Some rest) without h =
          let same : object rest ≡ m = cc in ap (child q) (sym same) ∙ find_member-without_apart ms rest without

  child-rename_apart : (to : List ℕ) → is_same to q ≡ false → (p m : Json) → rename_child to name p ≡ Ok m → child q m ≡ child q p
  child-rename_apart to to_apart null m is = absurd (cc)
  child-rename_apart to to_apart (boolean b) m is = absurd (cc)
  child-rename_apart to to_apart (number s) m is = absurd (cc)
  child-rename_apart to to_apart (string s) m is = absurd (cc)
  child-rename_apart to to_apart (array js) m is = absurd (cc)
  child-rename_apart to to_apart (object ms) m is =
      by_tests (is_some (find_member name ms)) (bytes_eq name to) (is_some (find_member to ms)) is
    where
      by_tests : (a b c : Bool)
          → cond a (cond b (Ok (object ms)) (cond c (Err Taken) (Ok (object (rename_member to name ms))))) (Err Absent) ≡ Ok m
          → child q m ≡ find_member q ms
      by_tests false b c h = absurd (cc)
      by_tests true true c h = let same : object ms ≡ m = cc in ap (child q) (sym same)
      by_tests true false true h = absurd (cc)
      by_tests true false false h =
          let same : object (rename_member to name ms) ≡ m = cc in ap (child q) (sym same) ∙ find_member-rename_apart to to_apart ms

  child-move_apart : (behind : Bool) (other : List ℕ) (p m : Json) → move_child behind other name p ≡ Ok m → child q m ≡ child q p
  child-move_apart behind other null m is = absurd (cc)
  child-move_apart behind other (boolean b) m is = absurd (cc)
  child-move_apart behind other (number s) m is = absurd (cc)
  child-move_apart behind other (string s) m is = absurd (cc)
  child-move_apart behind other (array js) m is = absurd (cc)
  child-move_apart behind other (object ms) m is =
      by_found (find_member name ms) (is_some (find_member other ms)) is
    where
      rest_kept : (r : Option Members) → without_member name ms ≡ r → find_member q (unwrap_or r ms) ≡ find_member q ms
      rest_kept None without = refl
      rest_kept (Some rest) without = find_member-without_apart ms rest without

      by_test : (b : Bool) (j : Json)
          → find_member q (cond b ms (put_beside behind name j other (unwrap_or (without_member name ms) ms))) ≡ find_member q ms
      by_test true j = refl
      by_test false j = find_member-put_beside behind j other (unwrap_or (without_member name ms) ms)
          ∙ rest_kept (without_member name ms) refl

      by_found : (o : Option Json) (a : Bool) → moved behind other name ms o a ≡ Ok m → child q m ≡ find_member q ms
      by_found None a h = absurd (cc)
      by_found (Some j) false h = absurd (cc)
      by_found (Some j) true h =
          let same : object (cond (bytes_eq name other) ms (put_beside behind name j other (unwrap_or (without_member name ms) ms))) ≡ m =
          cc in ap (child q) (sym same) ∙ by_test (bytes_eq name other) j

-- what the two names of a renaming find

find_member-renamed : (to name : List ℕ) (ms : Members) → find_member to ms ≡ None
    → find_member to (rename_member to name ms) ≡ find_member name ms
find_member-renamed to name no_members none = refl
find_member-renamed to name (member other j ms) none =
    by_test (bytes_eq name other) (bytes_eq to other) refl none (find_member-renamed to name ms)
  where
    by_test : (a b : Bool) → bytes_eq to other ≡ b → cond b (Some j) (find_member to ms) ≡ None
        → (find_member to ms ≡ None → find_member to (rename_member to name ms) ≡ find_member name ms)
        → find_member to (member (cond a to other) j (rename_member to name ms)) ≡ cond a (Some j) (find_member name ms)
    by_test a true is h below = absurd (cc)
    by_test true false is h below = rw (nat_list_eq_equiv.refl to) refl
    by_test false false is h below = rw is (below h)

find_member-rename_gone : (to name : List ℕ) (ms : Members) → bytes_eq name to ≡ false
    → find_member name (rename_member to name ms) ≡ None
find_member-rename_gone to name no_members apart = refl
find_member-rename_gone to name (member other j ms) apart =
    by_test (bytes_eq name other) refl (find_member-rename_gone to name ms apart)
  where
    by_test : (b : Bool) → bytes_eq name other ≡ b → find_member name (rename_member to name ms) ≡ None
        → find_member name (member (cond b to other) j (rename_member to name ms)) ≡ None
    by_test true is below = rw apart below
    by_test false is below = rw is below

-- the new name finds what the old one found, which finds nothing then
child-renamed : (to name : List ℕ) (p m : Json) → rename_child to name p ≡ Ok m
    → (child to m ≡ child name p) × (bytes_eq name to ≡ false → child name m ≡ None)
child-renamed to name null m is = absurd (cc)
child-renamed to name (boolean b) m is = absurd (cc)
child-renamed to name (number s) m is = absurd (cc)
child-renamed to name (string s) m is = absurd (cc)
child-renamed to name (array js) m is = absurd (cc)
child-renamed to name (object ms) m is =
    by_tests (is_some (find_member name ms)) (bytes_eq name to) refl (is_some (find_member to ms)) refl is
  where
    by_tests : (a b : Bool) → bytes_eq name to ≡ b → (c : Bool) → is_some (find_member to ms) ≡ c
        → cond a (cond b (Ok (object ms)) (cond c (Err Taken) (Ok (object (rename_member to name ms))))) (Err Absent) ≡ Ok m
        → (child to m ≡ find_member name ms) × (b ≡ false → child name m ≡ None)
    by_tests false b same c there h = absurd (cc)
    by_tests true true same c there h =
        let m_is : object ms ≡ m = cc in
        (ap (child to) (sym m_is) ∙ ap (λ n. find_member n ms) (sym ((bytes_decides name to).0 same)), λ apart. absurd (cc (apart)))
    by_tests true false same true there h = absurd (cc)
    by_tests true false same false there h =
        let m_is : object (rename_member to name ms) ≡ m = cc in (
          ap (child to) (sym m_is) ∙ find_member-renamed to name ms (none-found (find_member to ms) there),
          λ apart. ap (child name) (sym m_is) ∙ find_member-rename_gone to name ms same,
        )

-- what pointers find: every other one what it found before

module _ (text other : List ℕ) (path more : List (List ℕ)) (name : List ℕ) (j k : Json) (is : names text ≡ Some (path ++ name ∷ []))
    (more_is : names other ≡ Some more) (apart : lead_apart (path ++ name ∷ []) more ≡ true) where
  -- after a removal of a member: the items behind one that is removed have other indices
  pub pointed-remove_apart : (ms : Members) → get_at path j ≡ Some (object ms) → remove_at text j ≡ Ok k
      → pointed other k ≡ pointed other j
  pointed-remove_apart ms there done = pointed-edit_apart of_object text other path more name name j k is more_is
      (λ q differ _ p m. kept q differ p m) apart apart
      (by_names-append of_object text path name j is ∙ ap (λ o. put_back path j (edit_found (of_object name) o)) there
      ∙ sym (ap (λ o. put_back path j (edit_found (without_child name) o)) there)
      ∙ sym (by_names-append without_child text path name j is) ∙ done)
    where
      of_object : List ℕ → Json → Edited
      of_object n p = by_kind (λ js. Err Absent) (λ ns. without_child n (object ns)) (Err Absent) p

      kept : (q : List ℕ) → is_same name q ≡ false → (p m : Json) → of_object name p ≡ Ok m → child q m ≡ child q p
      kept q differ null m h = absurd (cc)
      kept q differ (boolean b) m h = absurd (cc)
      kept q differ (number s) m h = absurd (cc)
      kept q differ (string s) m h = absurd (cc)
      kept q differ (array js) m h = absurd (cc)
      kept q differ (object ns) m h = child-without_apart name q differ ns m h

  pub pointed-rename_apart : (to : List ℕ) → lead_apart (path ++ to ∷ []) more ≡ true → rename_at text to j ≡ Ok k
      → pointed other k ≡ pointed other j
  pointed-rename_apart to to_apart done = pointed-edit_apart (rename_child to) text other path more name to j k is more_is
      (λ q differ to_differ p m. child-rename_apart name q differ to to_differ p m) apart to_apart done

  pub pointed-move_apart : (behind : Bool) (beside : List ℕ) → move_at behind text beside j ≡ Ok k → pointed other k ≡ pointed other j
  pointed-move_apart behind beside done = pointed-edit_apart (move_child behind beside) text other path more name name j k is more_is
      (λ q differ _ p m. child-move_apart name q differ behind beside p m) apart apart done

-- after a renaming the new pointer finds what the old one found, which finds nothing then
pub pointed-rename_at : (text new : List ℕ) (path : List (List ℕ)) (name to : List ℕ) (j k : Json) → names text ≡ Some (path ++ name ∷ [])
    → names new ≡ Some (path ++ to ∷ []) → rename_at text to j ≡ Ok k
    → (pointed new k ≡ pointed text j) × (bytes_eq name to ≡ false → pointed text k ≡ None)
pointed-rename_at text new path name to j k is new_is done =
    let e = edited (rename_child to) text path name j k is done in
    let finds = pointed-edited (rename_child to) text path name j k is done in
    let both = child-renamed to name e.before e.after e.edit in (
      finds new to new_is ∙ both.0 ∙ sym (ap (option_and_then (λ ns. get_at ns j)) is ∙ get_at-append path name j
          ∙ ap (option_and_then (child name)) e.found),
      λ apart. finds text name is ∙ both.1 apart,
    )
