-- What a pointer leads to (RFC 6901).
use Rattle.std.specs.Prelude.{ℕ, zero, suc, ◌+◌, ◌*◌, ◌-◌, ◌==◌, cond, List, [], ◌∷◌, ◌++◌, Option, Some, None, option_and_then, option_map}
use Rattle.std.specs.Char.{is_ascii_digit}
use Rattle.std.specs.Str.{bytes_eq}
use Rattle.json.specs.Json.{Json, null, boolean, number, string, array, object, Items, no_items, item, Members, no_members, member}
use Rattle.json.specs.Find.{get_item}

-- ---- names

-- a part of a pointer as the name that it is: `~0` is `~`, `~1` is `/`, and no other `~` is one
abbrev mutual
  pub unescape : List ℕ → Option (List ℕ)
  unescape [] = Some []
  unescape (x ∷ rest) =
      cond (x == 126) (unescape_tilde rest) (option_map (λ name. x ∷ name) (unescape rest))

  -- from behind a `~` on
  pub unescape_tilde : List ℕ → Option (List ℕ)
  unescape_tilde [] = None
  unescape_tilde (x ∷ rest) =
      cond (x == 48) (option_map (λ name. 126 ∷ name) (unescape rest))
      (cond (x == 49) (option_map (λ name. 47 ∷ name) (unescape rest)) None)

-- the names of a text, in which the part that has been read of the first one is given
abbrev pub names_after : List ℕ → List ℕ → Option (List (List ℕ))
names_after part [] = option_map (λ name. name ∷ []) (unescape part)
names_after part (x ∷ rest) =
    cond (x == 47)
    (option_and_then (λ name. option_map (λ names. name ∷ names) (names_after [] rest)) (unescape part))
    (names_after (part ++ x ∷ []) rest)

-- the names of a pointer, none if the text is no pointer
abbrev pub names : List ℕ → Option (List (List ℕ))
names [] = Some []
names (x ∷ rest) = cond (x == 47) (names_after [] rest) None

-- the number that digits write behind those of n
abbrev pub number_after : ℕ → List ℕ → Option ℕ
number_after n [] = Some n
number_after n (x ∷ rest) = cond (is_ascii_digit x) (number_after (n * 10 + (x - 48)) rest) None

-- the index that a name is: 0, or digits of which the first is not 0
abbrev pub index : List ℕ → Option ℕ
index [] = None
index (x ∷ []) = number_after 0 (x ∷ [])
index (x ∷ y ∷ rest) = cond (x == 48) None (number_after 0 (x ∷ y ∷ rest))

-- ---- values

-- the value of a name in an object, or none
abbrev pub find_member : List ℕ → Members → Option Json
find_member name no_members = None
find_member name (member other j ms) = cond (bytes_eq name other) (Some j) (find_member name ms)

-- f of the items of an array, g of the members of an object, and x of any other value
abbrev pub by_kind : {A : Type 0} → (Items → A) → (Members → A) → A → Json → A
by_kind f g x null = x
by_kind f g x (boolean b) = x
by_kind f g x (number s) = x
by_kind f g x (string s) = x
by_kind f g x (array js) = f js
by_kind f g x (object ms) = g ms

-- the value of a name, or none: a member of an object, an item of an array
abbrev pub child : List ℕ → Json → Option Json
child name j =
    by_kind (λ js. option_and_then (λ n. get_item n js) (index name)) (find_member name) None j

-- the value that names lead to, the outermost first, or none
abbrev pub get_at : List (List ℕ) → Json → Option Json
get_at [] j = Some j
get_at (name ∷ path) j = option_and_then (get_at path) (child name j)

-- ---- changes of what is there

-- the members, with f of the value of a name in its place
abbrev pub change_member : (Json → Json) → List ℕ → Members → Members
change_member f name no_members = no_members
change_member f name (member other j ms) =
    cond (bytes_eq name other) (member other (f j) ms) (member other j (change_member f name ms))

-- the items, with f of the one at an index in its place
abbrev pub change_item : (Json → Json) → ℕ → Items → Items
change_item f n no_items = no_items
change_item f zero (item j js) = item (f j) js
change_item f (suc n) (item j js) = item j (change_item f n js)

abbrev pub change_items : (Json → Json) → Option ℕ → Items → Items
change_items f None js = js
change_items f (Some n) js = change_item f n js

-- the value, with f of the child of a name in its place
abbrev pub change_child : (Json → Json) → List ℕ → Json → Json
change_child f name j =
    by_kind (λ js. array (change_items f (index name) js))
    (λ ms. object (change_member f name ms)) j j

-- the value, with f of the value that names lead to in its place
abbrev pub change_at : (Json → Json) → List (List ℕ) → Json → Json
change_at f [] j = f j
change_at f (name ∷ path) j = change_child (change_at f path) name j

-- the value that a pointer leads to, or none
abbrev pub pointed : List ℕ → Json → Option Json
pointed text j = option_and_then (λ path. get_at path j) (names text)
