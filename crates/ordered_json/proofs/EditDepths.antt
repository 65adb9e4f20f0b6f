-- A document that a value is set in nests no deeper than it did, or than the value may there.
use Rattle.std.proofs.Common.{◌≡◌, ℕ, zero, suc, ◌+◌, ◌-◌, ◌<◌, ◌≤◌, max, nat_le, length, List, [], ◌∷◌, ◌++◌, Option, Some, None, Ok, Err}
use Rattle.std.proofs.Common.{option_map, option_and_then, cond, Bool, true, false, refl, sym, ap, subst, ◌∙◌, arith, length-append}
use Rattle.std.proofs.lemmas.Bool.{leb-true}
use Rattle.std.proofs.lemmas.List.{length-take}
use Rattle.std.specs.Option.{ok_or}
use Rattle.std.specs.Str.{bytes_eq}
use Rattle.json.specs.Json.{Json, null, boolean, number, string, array, object, Items, no_items, item, Members, no_members, member}
use Rattle.json.specs.Find.{get_item}
use Rattle.json.specs.Tree.{depth, items_depth, members_depth}
use Rattle.ordered_json.specs.Edits.{Edited, by_names, push_item, put_item, put_named}
use Rattle.ordered_json.specs.Edits.{put_at, put_child, set_by, set_at, edit_last, edit_parent}
use Rattle.linked_hash_map.specs.Pairs.{last, without_last}
use Rattle.ordered_json.specs.Pointers.{names, index, child, find_member, get_at}
use Rattle.ordered_json.specs.Pointers.{change_member, change_item, change_items, change_child, change_at}
use Rattle.ordered_json.specs.Read.{put}
use Rattle.ordered_json.specs.declared.edit.EditError.TheVariants.{OutOfRange, TooDeep}
use Rattle.ordered_json.specs.declared.read.TheConstants.{MAX_DEPTH}
use Rattle.ordered_json.proofs.Depths.{members_depth-put}
use Rattle.ordered_json.proofs.Pointed.{edited_at}

-- ---- what is found

pub get_item-depth : (n : ℕ) (js : Items) (k : Json) → get_item n js ≡ Some k → depth k ≤ items_depth js
get_item-depth n no_items k is = absurd (cc)
get_item-depth zero (item j js) k is = let same : j ≡ k = cc in omega (arith, ap depth same)
get_item-depth (suc n) (item j js) k is = omega (arith, get_item-depth n js k is)

find_member-depth : (name : List ℕ) (ms : Members) (k : Json) → find_member name ms ≡ Some k → depth k ≤ members_depth ms
find_member-depth name no_members k is = absurd (cc)
find_member-depth name (member other j ms) k is = by_test (bytes_eq name other) is (find_member-depth name ms k)
  where
    by_test : (b : Bool) → cond b (Some j) (find_member name ms) ≡ Some k → (find_member name ms ≡ Some k → depth k ≤ members_depth ms)
        → depth k ≤ max (depth j) (members_depth ms)
    by_test true h rest = let same : j ≡ k = cc in omega (arith, ap depth same)
    by_test false h rest = omega (arith, rest h)

child-depth : (name : List ℕ) (j k : Json) → child name j ≡ Some k → depth k + 1 ≤ depth j
child-depth name null k is = absurd (cc)
child-depth name (boolean b) k is = absurd (cc)
child-depth name (number s) k is = absurd (cc)
child-depth name (string s) k is = absurd (cc)
child-depth name (array js) k is = by_index (index name) is
  where
    by_index : (o : Option ℕ) → option_and_then (λ n. get_item n js) o ≡ Some k → depth k + 1 ≤ depth (array js)
    by_index None h = absurd (cc)
    by_index (Some n) h = omega (arith, get_item-depth n js k h)
child-depth name (object ms) k is = omega (arith, find_member-depth name ms k is)

pub depth-get_at : (path : List (List ℕ)) (j k : Json) → get_at path j ≡ Some k → length path + depth k ≤ depth j
depth-get_at [] j k is = let same : j ≡ k = cc in omega (arith, ap depth same)
depth-get_at (name ∷ path) j k is = by_child (child name j) refl is (λ m h. depth-get_at path m k h)
  where
    by_child : (o : Option Json) → child name j ≡ o → option_and_then (get_at path) o ≡ Some k
        → ((m : Json) → get_at path m ≡ Some k → length path + depth k ≤ depth m) → length (name ∷ path) + depth k ≤ depth j
    by_child None there h below = absurd (cc)
    by_child (Some m) there h below = omega (arith, child-depth name j m there, below m h)

-- ---- what is changed

module _ (f : Json → Json) (most : ℕ) (within : (k : Json) → depth (f k) ≤ max (depth k) most) where
  change_member-depth : (name : List ℕ) (ms : Members) → members_depth (change_member f name ms) ≤ max (members_depth ms) most
  change_member-depth name no_members = omega arith
  change_member-depth name (member other j ms) = by_test (bytes_eq name other) (change_member-depth name ms)
    where
      by_test : (b : Bool) → members_depth (change_member f name ms) ≤ max (members_depth ms) most
          → members_depth (cond b (member other (f j) ms) (member other j (change_member f name ms)))
          ≤ max (max (depth j) (members_depth ms)) most
      by_test true rest = omega (arith, within j)
      by_test false rest = omega (arith, rest)

  change_item-depth : (n : ℕ) (js : Items) → items_depth (change_item f n js) ≤ max (items_depth js) most
  change_item-depth n no_items = omega arith
  change_item-depth zero (item j js) = omega (arith, within j)
  change_item-depth (suc n) (item j js) = omega (arith, change_item-depth n js)

  change_child-depth : (name : List ℕ) (j : Json) → depth (change_child f name j) ≤ max (depth j) (most + 1)
  change_child-depth name null = omega arith
  change_child-depth name (boolean b) = omega arith
  change_child-depth name (number s) = omega arith
  change_child-depth name (string s) = omega arith
  change_child-depth name (array js) = by_index (index name)
    where
      by_index : (o : Option ℕ) → depth (array (change_items f o js)) ≤ max (depth (array js)) (most + 1)
      by_index None = omega arith
      by_index (Some n) = omega (arith, change_item-depth n js)
  change_child-depth name (object ms) = omega (arith, change_member-depth name ms)

pub depth-change_at : (m : Json) (path : List (List ℕ)) (j : Json)
    → depth (change_at (λ _. m) path j) ≤ max (depth j) (length path + depth m)
depth-change_at m [] j = omega arith
depth-change_at m (name ∷ path) j =
    omega (arith, change_child-depth (change_at (λ _. m) path) (length path + depth m) (depth-change_at m path) name j)

-- ---- what is put

push_item-depth : (u : Json) (js : Items) → items_depth (push_item u js) ≤ max (items_depth js) (depth u)
push_item-depth u no_items = omega arith
push_item-depth u (item j js) = omega (arith, push_item-depth u js)

put_item-depth : (u : Json) (n : ℕ) (js ks : Items) → put_item u n js ≡ Some ks → items_depth ks ≤ max (items_depth js) (depth u)
put_item-depth u zero no_items ks is = let same : item u no_items ≡ ks = cc in omega (arith, ap items_depth same)
put_item-depth u (suc n) no_items ks is = absurd (cc)
put_item-depth u zero (item j js) ks is = let same : item u js ≡ ks = cc in omega (arith, ap items_depth same)
put_item-depth u (suc n) (item j js) ks is = by_rest (put_item u n js) is (λ ms h. put_item-depth u n js ms h)
  where
    by_rest : (o : Option Items) → option_map (item j) o ≡ Some ks
        → ((ms : Items) → o ≡ Some ms → items_depth ms ≤ max (items_depth js) (depth u))
        → items_depth ks ≤ max (max (depth j) (items_depth js)) (depth u)
    by_rest None h below = absurd (cc)
    by_rest (Some ms) h below = let same : item j ms ≡ ks = cc in omega (arith, ap items_depth same, below ms refl)

put_child-depth : (u : Json) (name : List ℕ) (p m : Json) → put_child u name p ≡ Ok m → depth m ≤ max (depth p) (depth u + 1)
put_child-depth u name null m is = absurd (cc)
put_child-depth u name (boolean b) m is = absurd (cc)
put_child-depth u name (number s) m is = absurd (cc)
put_child-depth u name (string s) m is = absurd (cc)
put_child-depth u name (array js) m is = by_items (put_named u name js) refl is
  where
    named : (b : Bool) (o : Option ℕ) (ks : Items) → cond b (Some (push_item u js)) (option_and_then (λ n. put_item u n js) o) ≡ Some ks
        → items_depth ks ≤ max (items_depth js) (depth u)
    named true o ks h = let same : push_item u js ≡ ks = cc in omega (arith, ap items_depth same, push_item-depth u js)
    named false None ks h = absurd (cc)
    named false (Some n) ks h = put_item-depth u n js ks h

    by_items : (o : Option Items) → put_named u name js ≡ o → ok_or (option_map array o) OutOfRange ≡ Ok m
        → depth m ≤ max (depth (array js)) (depth u + 1)
    by_items None put_is h = absurd (cc)
    by_items (Some ks) put_is h =
        let same : array ks ≡ m = cc in
        omega (arith, ap depth same, named (bytes_eq name (45 ∷ [])) (index name) ks put_is)
put_child-depth u name (object ms) m is =
    let same : object (put name u ms) ≡ m = cc in omega (arith, ap depth same, members_depth-put name u ms)

-- a document of at most so many levels stays one
pub depth-set_at : (text : List ℕ) (u j k : Json) → depth j ≤ MAX_DEPTH → set_at text u j ≡ Ok k → depth k ≤ MAX_DEPTH
depth-set_at text u j k within done = by_names_of (names text) done
  where
    by_last : (ns : List (List ℕ)) (o : Option (List ℕ)) → 0 < length ns → length ns + depth u ≤ MAX_DEPTH
        → edit_last (put_child u) (without_last ns) o j ≡ Ok k → depth k ≤ MAX_DEPTH
    by_last ns None some fits h = absurd (cc)
    by_last ns (Some name) some fits h =
        let e = edited_at (put_child u name) (without_last ns) j k h in
        omega (
          arith,
          within,
          fits,
          some,
          length-take (length ns - 1) ns,
          ap depth e.document,
          depth-change_at e.after (without_last ns) j,
          depth-get_at (without_last ns) j e.before e.found,
          put_child-depth u name e.before e.after e.edit,
        )

    by_path : (ns : List (List ℕ)) → length ns + depth u ≤ MAX_DEPTH → put_at u ns j ≡ Ok k → depth k ≤ MAX_DEPTH
    by_path [] fits h = let same : u ≡ k = cc in omega (arith, fits, ap depth same)
    by_path (n ∷ ns) fits h = by_last (n ∷ ns) (last (n ∷ ns)) (omega arith) fits h

    by_names_of : (o : Option (List (List ℕ))) → by_names (set_by u) o j ≡ Ok k → depth k ≤ MAX_DEPTH
    by_names_of None h = absurd (cc)
    by_names_of (Some ns) h = by_test (nat_le (length ns + depth u) MAX_DEPTH) refl h
      where
        by_test : (b : Bool) → nat_le (length ns + depth u) MAX_DEPTH ≡ b → cond b (put_at u ns j) (Err TooDeep) ≡ Ok k
            → depth k ≤ MAX_DEPTH
        by_test true fits h = by_path ns (leb-true (length ns + depth u) MAX_DEPTH fits) h
        by_test false fits h = absurd (cc)
