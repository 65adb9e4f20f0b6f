-- The loops of the grammar, a turn at a time, with each name once.
use Rattle.std.proofs.Common.{◌≡◌, ℕ, ◌-◌, ◌<◌, ◌≤◌, List, [], ◌∷◌, ◌++◌, length, Option, Some, None, option_map}
use Rattle.std.proofs.Common.{option_and_then, refl, ap, ◌∙◌}
use Rattle.json.specs.Token.{Token}
use Rattle.json.specs.Json.{Json, array, object, Items, no_items, item, Members, no_members, member}
use Rattle.json.specs.Json.{Parse, parse_map, after_end_array, read_key, items, members, if_last}
use Rattle.json.proofs.Grammar.{items_end, items_fail, items_more, members_end, members_fail, members_more, members_no_key}
use Rattle.ordered_json.specs.Read.{put, resolved, resolved_value, resolved_items, resolved_members}
use Rattle.ordered_json.specs.View.{view, items_view}
use Rattle.ordered_json.specs.declared.value.Value.{Value}

abbrev pub pick : {A : Type 0} → A → Option A → A
pick a None = a
pick a (Some b) = b

-- what a map was made of
parse_map-some : {A B : Type 0} (f : A → B) (o : Option (A × List Token)) (b : B) (r : List Token)
    → parse_map f o ≡ Some (b, r) → (a : A) × (o ≡ Some (a, r)) × (f a ≡ b)
parse_map-some f None b r e = absurd (cc)
parse_map-some f (Some p) b r e =
    let same = ap (pick (f p.0, p.1)) e in (p.0, ap (λ q. Some (p.0, q.1)) same, ap (λ q. q.0) same)

parse_map-none : {A B : Type 0} (f : A → B) (o : Option (A × List Token)) → parse_map f o ≡ None → o ≡ None
parse_map-none f None e = refl
parse_map-none f (Some p) e = absurd (cc)

pub resolved_value-array : (o : Option (Items × List Token)) → resolved_value (parse_map array o) ≡ parse_map array (resolved_items o)
resolved_value-array None = refl
resolved_value-array (Some p) = refl

pub resolved_value-object : (o : Option (Members × List Token))
    → resolved_value (parse_map object o) ≡ parse_map object (resolved_members no_members o)
resolved_value-object None = refl
resolved_value-object (Some p) = refl

resolved_items-item : (j : Json) (o : Option (Items × List Token))
    → resolved_items (parse_map (item j) o) ≡ parse_map (item (resolved j)) (resolved_items o)
resolved_items-item j None = refl
resolved_items-item j (Some p) = refl

resolved_members-member : (before : Members) (name : List ℕ) (j : Json) (o : Option (Members × List Token))
    → resolved_members before (parse_map (member name j) o) ≡ resolved_members (put name (resolved j) before) o
resolved_members-member before name j None = refl
resolved_members-member before name j (Some p) = refl

module _ (p : Parse Json) where
  pub item_read : (n : ℕ) (ts r : List Token) (j : Json) → 0 < n → after_end_array ts ≡ None → resolved_value (p ts) ≡ Some (j, r)
      → resolved_items (items p n ts) ≡ parse_map (item j) (resolved_items (items p (n - 1) r))
  item_read n ts r j some going e =
      let read = parse_map-some resolved (p ts) j r e in
      ap resolved_items (items_more p n ts r read.0 some going read.1) ∙ resolved_items-item read.0 _
      ∙ ap (λ k. parse_map (item k) (resolved_items (items p (n - 1) r))) read.2

  pub item_refused : (n : ℕ) (ts : List Token) → after_end_array ts ≡ None → resolved_value (p ts) ≡ None
      → resolved_items (items p n ts) ≡ None
  item_refused n ts going e = ap resolved_items (items_fail p n ts going (parse_map-none resolved (p ts) e))

  pub items_over : (n : ℕ) (ts r : List Token) → length ts ≤ n → after_end_array ts ≡ Some r
      → resolved_items (items p n ts) ≡ Some (no_items, r)
  items_over n ts r enough e = ap resolved_items (items_end p n ts r enough e)

  module _ (before : Members) where
    pub member_read : (n : ℕ) (name : List ℕ) (ts s r : List Token) (j : Json) → 0 < n → read_key ts ≡ Some (Some name, s)
        → resolved_value (p s) ≡ Some (j, r)
        → resolved_members before (members p n ts) ≡ resolved_members (put name j before) (members p (n - 1) r)
    member_read n name ts s r j some named e =
        let read = parse_map-some resolved (p s) j r e in
        ap (resolved_members before) (members_more p n name ts s r read.0 some named read.1)
        ∙ resolved_members-member before name read.0 _
        ∙ ap (λ k. resolved_members (put name k before) (members p (n - 1) r)) read.2

    pub member_refused : (n : ℕ) (name : List ℕ) (ts s : List Token) → read_key ts ≡ Some (Some name, s)
        → resolved_value (p s) ≡ None → resolved_members before (members p n ts) ≡ None
    member_refused n name ts s named e =
        ap (resolved_members before) (members_fail p n name ts s named (parse_map-none resolved (p s) e))

    pub name_refused : (n : ℕ) (ts : List Token) → read_key ts ≡ None → resolved_members before (members p n ts) ≡ None
    name_refused n ts e = ap (resolved_members before) (members_no_key p n ts e)

    pub members_over : (n : ℕ) (ts r : List Token) → length ts ≤ n → read_key ts ≡ Some (None, r)
        → resolved_members before (members p n ts) ≡ Some (before, r)
    members_over n ts r enough e = ap (resolved_members before) (members_end p n ts r enough e)

-- ---- items behind others

abbrev pub items_behind : List Value → Items → Items
items_behind [] rest = rest
items_behind (v ∷ vs) rest = item (view v) (items_behind vs rest)

pub items_behind-no_items : (vs : List Value) → items_behind vs no_items ≡ items_view vs
items_behind-no_items [] = refl
items_behind-no_items (v ∷ vs) = ap (item (view v)) (items_behind-no_items vs)

items_behind-item : (vs : List Value) (v : Value) (rest : Items) → items_behind vs (item (view v) rest) ≡ items_behind (vs ++ v ∷ []) rest
items_behind-item [] v rest = refl
items_behind-item (w ∷ vs) v rest = ap (item (view w)) (items_behind-item vs v rest)

pub one_more_item : (vs : List Value) (v : Value) (o : Option (Items × List Token))
    → parse_map (items_behind vs) (parse_map (item (view v)) o) ≡ parse_map (items_behind (vs ++ v ∷ [])) o
one_more_item vs v None = refl
one_more_item vs v (Some p) = ap (λ js. Some (js, p.1)) (items_behind-item vs v p.0)

pub no_item_yet : (o : Option (Items × List Token)) → o ≡ parse_map (items_behind []) o
no_item_yet None = refl
no_item_yet (Some p) = refl

-- ---- the whole text

abbrev pub whole : Option (Json × List Token) → Option Json
whole o = option_map resolved (option_and_then (λ p. if_last p.0 p.1) o)

pub whole_read : (o : Option (Json × List Token)) (j : Json) → resolved_value o ≡ Some (j, []) → whole o ≡ Some j
whole_read o j e = let read = parse_map-some resolved o j [] e in ap whole read.1 ∙ ap Some read.2
