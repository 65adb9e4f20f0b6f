-- What a change of the value at the end of names leaves.
use Rattle.std.proofs.Common.{◌≡◌, ℕ, zero, suc, List, [], ◌∷◌, ◌++◌, Option, Some, None, option_and_then, option_map, is_some}
use Rattle.std.proofs.Common.{length, ◌<◌, ◌==◌, take, Ok, Err}
use Rattle.std.proofs.Common.{cond, Bool, true, false, refl, sym, ap, ◌∙◌, arith, length-append, eqb-true}
use Rattle.std.proofs.Math.Seq.{take-append_seam}
use Rattle.std.specs.Str.{bytes_eq}
use Rattle.json.specs.Json.{Json, null, boolean, number, string, array, object, Items, no_items, item, Members, no_members, member}
use Rattle.json.specs.Find.{get_item}
use Rattle.linked_hash_map.specs.Pairs.{without_last}
use Rattle.linked_hash_map.proofs.Callers.Lookups.{last-append}
use Rattle.ordered_json.specs.Edits.{Edited, by_names, edit_at, edit_last, edit_parent, put_back, edit_found, put_at, put_child}
use Rattle.ordered_json.specs.Pointers.{names, index, child, find_member, get_at, change_at, change_member, change_item, change_items}
use Rattle.ordered_json.specs.declared.edit.EditError.{EditError}
use Rattle.ordered_json.proofs.Children.{change_member-own, change_item-own}

-- the document stays if the value found does
pub change_at-own : (f : Json → Json) (path : List (List ℕ)) (j : Json) → ((k : Json) → get_at path j ≡ Some k → f k ≡ k)
    → change_at f path j ≡ j
change_at-own f [] j own = own j refl
change_at-own f (name ∷ path) null own = refl
change_at-own f (name ∷ path) (boolean b) own = refl
change_at-own f (name ∷ path) (number s) own = refl
change_at-own f (name ∷ path) (string s) own = refl
change_at-own f (name ∷ path) (array js) own = ap array (by_index (index name) (λ k h. change_at-own f path k h) own)
  where
    by_index : (o : Option ℕ) → ((k : Json) → ((m : Json) → get_at path k ≡ Some m → f m ≡ m) → change_at f path k ≡ k)
        → ((k : Json) → option_and_then (get_at path) (option_and_then (λ n. get_item n js) o) ≡ Some k → f k ≡ k)
        → change_items (change_at f path) o js ≡ js
    by_index None below h = refl
    by_index (Some n) below h = change_item-own (change_at f path) n js
        (λ k found. below k (λ m is. h m (ap (option_and_then (get_at path)) found ∙ is)))
change_at-own f (name ∷ path) (object ms) own =
    ap object (change_member-own (change_at f path) name ms
    (λ k found. change_at-own f path k (λ m is. own m (ap (option_and_then (get_at path)) found ∙ is))))

-- two changes in turn are one
change_member-twice : (f g h : Json → Json) (name : List ℕ) (ms : Members) → ((j : Json) → f (g j) ≡ h j)
    → change_member f name (change_member g name ms) ≡ change_member h name ms
change_member-twice f g h name no_members both = refl
change_member-twice f g h name (member other j ms) both =
    by_test (change_member-twice f g h name ms both) (bytes_eq name other) refl
  where
    by_test : change_member f name (change_member g name ms) ≡ change_member h name ms
        → (b : Bool) → bytes_eq name other ≡ b
        → change_member f name (cond b (member other (g j) ms) (member other j (change_member g name ms)))
        ≡ cond b (member other (h j) ms) (member other j (change_member h name ms))
    by_test rest true same = rw same (ap (λ k. member other k ms) (both j))
    by_test rest false apart = rw apart (ap (member other j) rest)

change_item-twice : (f g h : Json → Json) (n : ℕ) (js : Items) → ((j : Json) → f (g j) ≡ h j)
    → change_item f n (change_item g n js) ≡ change_item h n js
change_item-twice f g h n no_items both = refl
change_item-twice f g h zero (item j js) both = ap (λ k. item k js) (both j)
change_item-twice f g h (suc n) (item j js) both = ap (item j) (change_item-twice f g h n js both)

pub change_at-twice : (f g h : Json → Json) (path : List (List ℕ)) (j : Json) → ((k : Json) → f (g k) ≡ h k)
    → change_at f path (change_at g path j) ≡ change_at h path j
change_at-twice f g h [] j both = both j
change_at-twice f g h (name ∷ path) null both = refl
change_at-twice f g h (name ∷ path) (boolean b) both = refl
change_at-twice f g h (name ∷ path) (number s) both = refl
change_at-twice f g h (name ∷ path) (string s) both = refl
change_at-twice f g h (name ∷ path) (array js) both = ap array (by_index (index name) (λ k. change_at-twice f g h path k both))
  where
    by_index : (o : Option ℕ) → ((k : Json) → change_at f path (change_at g path k) ≡ change_at h path k)
        → change_items (change_at f path) o (change_items (change_at g path) o js) ≡ change_items (change_at h path) o js
    by_index None below = refl
    by_index (Some n) below = change_item-twice _ _ _ n js below
change_at-twice f g h (name ∷ path) (object ms) both =
    ap object (change_member-twice _ _ _ name ms (λ k. change_at-twice f g h path k both))

-- only the value that is found matters to a change
change_member-found : (f g : Json → Json) (name : List ℕ) (ms : Members) → ((j : Json) → find_member name ms ≡ Some j → f j ≡ g j)
    → change_member f name ms ≡ change_member g name ms
change_member-found f g name no_members same = refl
change_member-found f g name (member other j ms) same = by_test (change_member-found f g name ms) (bytes_eq name other) refl same
  where
    by_test : (((k : Json) → find_member name ms ≡ Some k → f k ≡ g k) → change_member f name ms ≡ change_member g name ms)
        → (b : Bool) → bytes_eq name other ≡ b → ((k : Json) → cond b (Some j) (find_member name ms) ≡ Some k → f k ≡ g k)
        → change_member f name (member other j ms) ≡ change_member g name (member other j ms)
    by_test rest true alike is = rw alike (ap (λ k. member other k ms) (is j refl))
    by_test rest false apart is = rw apart (ap (member other j) (rest is))

change_item-found : (f g : Json → Json) (n : ℕ) (js : Items) → ((j : Json) → get_item n js ≡ Some j → f j ≡ g j)
    → change_item f n js ≡ change_item g n js
change_item-found f g n no_items same = refl
change_item-found f g zero (item j js) same = ap (λ k. item k js) (same j refl)
change_item-found f g (suc n) (item j js) same = ap (item j) (change_item-found f g n js same)

pub change_at-found : (f g : Json → Json) (path : List (List ℕ)) (j : Json) → ((k : Json) → get_at path j ≡ Some k → f k ≡ g k)
    → change_at f path j ≡ change_at g path j
change_at-found f g [] j same = same j refl
change_at-found f g (name ∷ path) null same = refl
change_at-found f g (name ∷ path) (boolean b) same = refl
change_at-found f g (name ∷ path) (number s) same = refl
change_at-found f g (name ∷ path) (string s) same = refl
change_at-found f g (name ∷ path) (array js) same = ap array (by_index (index name) (λ k h. change_at-found f g path k h) same)
  where
    by_index : (o : Option ℕ) → ((k : Json) → ((m : Json) → get_at path k ≡ Some m → f m ≡ g m) → change_at f path k ≡ change_at g path k)
        → ((k : Json) → option_and_then (get_at path) (option_and_then (λ n. get_item n js) o) ≡ Some k → f k ≡ g k)
        → change_items (change_at f path) o js ≡ change_items (change_at g path) o js
    by_index None below h = refl
    by_index (Some n) below h = change_item-found (change_at f path) (change_at g path) n js
        (λ k found. below k (λ m is. h m (ap (option_and_then (get_at path)) found ∙ is)))
change_at-found f g (name ∷ path) (object ms) same =
    ap object (change_member-found (change_at f path) (change_at g path) name ms
    (λ k found. change_at-found f g path k (λ m is. same m (ap (option_and_then (get_at path)) found ∙ is))))

without_last-append : {A : Type 0} (xs : List A) (x : A) → without_last (xs ++ x ∷ []) ≡ xs
without_last-append xs x = ap (λ n. take n (xs ++ x ∷ [])) (omega (arith, length-append xs (x ∷ []))) ∙ take-append_seam xs (x ∷ [])

edit_parent-append : (f : List ℕ → Json → Edited) (path : List (List ℕ)) (name : List ℕ) (j : Json)
    → edit_parent f (path ++ name ∷ []) j ≡ edit_at (f name) path j
edit_parent-append f path name j =
    ap (λ o. edit_last f (without_last (path ++ name ∷ [])) o j) (last-append path name)
    ∙ ap (λ p. edit_at (f name) p j) (without_last-append path name)

-- an edit by the names of a pointer, of which the last is the child that it edits
pub by_names-append : (f : List ℕ → Json → Edited) (text : List ℕ) (path : List (List ℕ)) (name : List ℕ) (j : Json)
    → names text ≡ Some (path ++ name ∷ []) → by_names (edit_parent f) (names text) j ≡ edit_at (f name) path j
by_names-append f text path name j is = ap (λ o. by_names (edit_parent f) o j) is ∙ edit_parent-append f path name j

pub put_at-append : (u : Json) (path : List (List ℕ)) (name : List ℕ) (j : Json)
    → put_at u (path ++ name ∷ []) j ≡ edit_at (put_child u name) path j
put_at-append u [] name j = edit_parent-append (put_child u) [] name j
put_at-append u (next ∷ path) name j = edit_parent-append (put_child u) (next ∷ path) name j

pub change_at-absent : (f : Json → Json) (path : List (List ℕ)) (j : Json) → is_some (get_at path j) ≡ false → change_at f path j ≡ j
change_at-absent f path j none = change_at-own f path j (λ k is. absurd (cc (none, is)))

pub not-taken : {T : Type 0} (f : T → Json) (r : Option T) (o : Option Json) → option_map f r ≡ o → r ≡ None → is_some o ≡ false
not-taken f r o value none = sym (ap is_some value) ∙ ap (λ s. is_some (option_map f s)) none

pub none-found : (o : Option Json) → is_some o ≡ false → o ≡ None
none-found None none = refl
none-found (Some j) none = absurd (cc)

-- an edit of a value that was taken out for it and put back
module _ (f : Json → Edited) (path : List (List ℕ)) (hole old mid parent after new : Json) (found : get_at path old ≡ Some parent)
    (mid_is : mid ≡ change_at (λ _. hole) path old) (new_is : new ≡ change_at (λ _. after) path mid) where
  new-change : new ≡ change_at (λ _. after) path old
  new-change = new_is ∙ ap (change_at (λ _. after) path) mid_is ∙ change_at-twice (λ _. after) (λ _. hole) (λ _. after) path old (λ k. refl)

  pub edit_at-done : f parent ≡ Ok after → edit_at f path old ≡ Ok new
  edit_at-done done = rw (found, done) (ap Ok (sym new-change))

  pub edit_at-refused : (error : EditError) → f parent ≡ Err error → edit_at f path old ≡ Err error
  edit_at-refused error refused = rw (found, refused) refl

  pub edit_at-kept : after ≡ parent → new ≡ old
  edit_at-kept same = new-change ∙ change_at-own (λ _. after) path old (λ k there. same ∙ by_some (sym found ∙ there))
    where
      by_some : {k : Json} → Some parent ≡ Some k → parent ≡ k
      by_some e = cc

-- the same by a pointer
module _ (f : List ℕ → Json → Edited) (text : List ℕ) (path : List (List ℕ)) (name : List ℕ) (hole old mid parent after new : Json)
    (is : names text ≡ Some (path ++ name ∷ [])) (found : get_at path old ≡ Some parent)
    (mid_is : mid ≡ change_at (λ _. hole) path old) (new_is : new ≡ change_at (λ _. after) path mid) where
  pub edited-done : f name parent ≡ Ok after → by_names (edit_parent f) (names text) old ≡ Ok new
  edited-done done =
      by_names-append f text path name old is ∙ edit_at-done (f name) path hole old mid parent after new found mid_is new_is done

  pub edited-refused : (error : EditError) → f name parent ≡ Err error → by_names (edit_parent f) (names text) old ≡ Err error
  edited-refused error refused = by_names-append f text path name old is
      ∙ edit_at-refused (f name) path hole old mid parent after new found mid_is new_is error refused

  pub edited-kept : after ≡ parent → new ≡ old
  edited-kept = edit_at-kept (f name) path hole old mid parent after new found mid_is new_is

pub get_at-append : (path : List (List ℕ)) (name : List ℕ) (j : Json)
    → get_at (path ++ name ∷ []) j ≡ option_and_then (child name) (get_at path j)
get_at-append [] name j = by_found (child name j)
  where
    by_found : (o : Option Json) → option_and_then (get_at []) o ≡ o
    by_found None = refl
    by_found (Some k) = refl
get_at-append (next ∷ path) name j = by_found (child next j) (λ k. get_at-append path name k)
  where
    by_found : (o : Option Json) → ((k : Json) → get_at (path ++ name ∷ []) k ≡ option_and_then (child name) (get_at path k))
        → option_and_then (get_at (path ++ name ∷ [])) o ≡ option_and_then (child name) (option_and_then (get_at path) o)
    by_found None below = refl
    by_found (Some k) below = below k
