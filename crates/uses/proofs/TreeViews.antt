-- A value of a document, level by level, and a map beside the members that it stands for.
use Rattle.std.proofs.Common.{◌≡◌, ℕ, List, [], ◌∷◌, ◌++◌, map, Option, Some, None, option_map, option_and_then, unwrap_or}
use Rattle.std.proofs.Common.{length, ◌<◌, ◌==◌, is_some, cond, Bool, true, false, refl, sym, ap, subst, ◌∙◌, arith, rules, String, Vec}
use Rattle.std.proofs.Common.{IfNone, IfSome}
use Rattle.std.specs.Prelude.{MatchOption}
use Rattle.std.proofs.lemmas.Bool.{eqb-true}
use Rattle.std.proofs.lemmas.Map.Keys.{IsDistinct-tail}
use Rattle.std.specs.Borrow.{Bor}
use Rattle.std.specs.Cmp.Lexicographic.{bytes_decides}
use Rattle.std.specs.List.{IsDistinct, IsFirstAndRest}
use Rattle.std.specs.Map.{keys_of}
use Rattle.std.specs.Map.Iter.{deref}
use Rattle.std.specs.Str.{bytes_eq}
use Rattle.std.specs.String.{string_bytes, string_eq, string_eq_equiv}
use Rattle.std.specs.declared.alloc.Global.{Global}
use Rattle.std.specs.declared.hash.BuildHasherDefault.{BuildHasherDefault}
use Rattle.std.specs.declared.hash.FoldHasher.{FoldHasher}
use Rattle.linked_hash_map.specs.LinkedMap.{LinkedMap}
use Rattle.linked_hash_map.specs.Pairs.{find, value_at, set_value, without}
use Rattle.linked_hash_map.proofs.Callers.Keys.{set_value-none}
use Rattle.linked_hash_map.proofs.Callers.Texts.{find-is_text}
use Rattle.linked_hash_map.proofs.Callers.Turns.{find-others}
use Rattle.uses.specs.Trees.{Tree, list, object, Members, no_members, member, get_member, put_member, without_member}
use Rattle.uses.specs.Trees.{get_at, edit_at, set_at, has_place, is_free, member_at}
use Rattle.uses.proofs.Edits.{below, put_member-own, edit_at-in, set_at-in, has_place-in, has_place-absent, is_free-in, member_at-in}
use Rattle.uses.specs.Documents.{view, items_of, members_view}
use Rattle.uses.specs.Texts.{names}
use Rattle.uses.specs.declared.nested.Value.{Value, List as ListOf, Object, the_lemmas}

abbrev pub Entry : Type 0
Entry = String Global × Value

abbrev pub Map : Type 0
Map = LinkedMap (String Global) Value (BuildHasherDefault FoldHasher)

abbrev pub items_view : List Value → Members
items_view vs = items_of (map view vs)

pub view-List : (v : Vec Value Global) → view (ListOf v) ≡ list (items_view v.items)
view-List v = search (rules, the_lemmas)

pub view-Object : (m : Map) → view (Object m) ≡ object (members_view m.pairs)
view-Object m = search (rules, the_lemmas)

pub get_member-view : (pairs : List Entry) (name : List ℕ)
    → get_member name (members_view pairs) ≡ option_map view (value_at names pairs name)
get_member-view [] name = refl
get_member-view (pair ∷ pairs) name = grind (arith, get_member-view pairs name)

pub without_member-view : (pairs : List Entry) (name : List ℕ)
    → members_view (without names pairs name) ≡ without_member name (members_view pairs)
without_member-view [] name = refl
without_member-view (pair ∷ pairs) name = grind (arith, without_member-view pairs name)

-- a name is no more than once among distinct keys
pub find-behind : (pair : Entry) (pairs : List Entry) (name : List ℕ) → IsDistinct string_eq (keys_of (pair ∷ pairs))
    → bytes_eq name (string_bytes pair.0) ≡ true → find names pairs name ≡ None
find-behind pair pairs name distinct same =
    sym (find-is_text pairs name pair.0 (sym ((bytes_decides name (string_bytes pair.0)).0 same)))
    ∙ find-others (string_eq_equiv {Z = Global}) pairs pair.0 pair distinct ((string_eq_equiv {Z = Global}).refl pair.0)

pub put_member-there : (pairs : List Entry) (name : List ℕ) (v : Value) {found : Value} → IsDistinct string_eq (keys_of pairs)
    → value_at names pairs name ≡ Some found → members_view (set_value names pairs name v) ≡ put_member (view v) name (members_view pairs)
put_member-there [] name v distinct there = absurd (cc)
put_member-there (pair ∷ pairs) name v distinct there =
    by_test (bytes_eq name (string_bytes pair.0)) refl there
    (put_member-there pairs name v (IsDistinct-tail string_eq pair.0 (keys_of pairs) distinct))
  where
    by_test : {found : Value} (b : Bool) → bytes_eq name (string_bytes pair.0) ≡ b
        → option_map (λ (p : Entry). p.1) (cond b (Some pair) (find names pairs name)) ≡ Some found
        → (value_at names pairs name ≡ Some found
        → members_view (set_value names pairs name v) ≡ put_member (view v) name (members_view pairs))
        → members_view (set_value names (pair ∷ pairs) name v) ≡ put_member (view v) name (members_view (pair ∷ pairs))
    by_test true same is rest = rw (same, set_value-none names pairs name v (find-behind pair pairs name distinct same)) refl
    by_test false apart is rest = rw apart (ap (member (string_bytes pair.0) (view pair.1)) (rest is))

pub put_member-new : (pairs : List Entry) (name : List ℕ) (key : String Global) (v : Value) → string_bytes key ≡ name
    → None ≡ value_at names pairs name → members_view (pairs ++ (key, v) ∷ []) ≡ put_member (view v) name (members_view pairs)
put_member-new [] name key v is none = ap (λ n. member n (view v) no_members) is
put_member-new (pair ∷ pairs) name key v is none =
    by_test (bytes_eq name (string_bytes pair.0)) refl none (put_member-new pairs name key v is)
  where
    by_test : (b : Bool) → bytes_eq name (string_bytes pair.0) ≡ b
        → None ≡ option_map (λ (p : Entry). p.1) (cond b (Some pair) (find names pairs name))
        → (None ≡ value_at names pairs name → members_view (pairs ++ (key, v) ∷ []) ≡ put_member (view v) name (members_view pairs))
        → members_view (pair ∷ (pairs ++ (key, v) ∷ [])) ≡ put_member (view v) name (members_view (pair ∷ pairs))
    by_test true same is rest = absurd (cc)
    by_test false apart is rest = rw apart (ap (member (string_bytes pair.0) (view pair.1)) (rest is))

-- a path that begins with a name, and a value that holds the members among which it is looked up
module _ {path rest : List (List ℕ)} {old : Tree} (pairs : List Entry) (name : List ℕ)
    (split : path ≡ name ∷ rest) (held : object (members_view pairs) ≡ old) where
  -- what is said of the name and the members is true of the path and the value
  pub as_whole : (P : List (List ℕ) → Tree → Type 0) → P (name ∷ rest) (object (members_view pairs)) → P path old
  as_whole P is = subst (λ t. P path t) held (subst (λ p. P p (object (members_view pairs))) (sym split) is)

  -- by what a lookup found
  module _ {found : Option Value} (looked : found ≡ value_at names pairs name) where
    in_view : get_member name (members_view pairs) ≡ option_map view found
    in_view = get_member-view pairs name ∙ ap (option_map view) (sym looked)

    pub get_at-found : get_at path old ≡ option_and_then (get_at rest) (option_map view found)
    get_at-found = as_whole (λ p t. get_at p t ≡ option_and_then (get_at rest) (option_map view found))
        (ap (option_and_then (get_at rest)) in_view)

    module _ (more : 0 < length rest) where
      pub member_at-found : member_at path old ≡ option_and_then (member_at rest) (option_map view found)
      member_at-found = as_whole (λ p t. member_at p t ≡ option_and_then (member_at rest) (option_map view found))
          (member_at-in name rest (members_view pairs) more ∙ ap (option_and_then (member_at rest)) in_view)

      pub is_free-found : (to : List ℕ) → is_free path to old ≡ unwrap_or (option_map (is_free rest to) (option_map view found)) true
      is_free-found to = as_whole (λ p t. is_free p to t ≡ unwrap_or (option_map (is_free rest to) (option_map view found)) true)
          (is_free-in name rest to (members_view pairs) more ∙ ap (λ o. unwrap_or (option_map (is_free rest to) o) true) in_view)

      pub edit_at-found : (f : List ℕ → Members → Members)
          → edit_at f path old ≡ below (edit_at f rest) name (object (members_view pairs)) (option_map view found)
      edit_at-found f = as_whole (λ p t. edit_at f p t ≡ below (edit_at f rest) name (object (members_view pairs)) (option_map view found))
          (edit_at-in name f rest (members_view pairs) more ∙ ap (below (edit_at f rest) name (object (members_view pairs))) in_view)

  pub has_place-none : 0 < length rest → None ≡ value_at names pairs name → has_place path old ≡ false
  has_place-none more none = as_whole (λ p t. has_place p t ≡ false) (has_place-absent name rest (members_view pairs) more (in_view none))

  -- by a value that was found, and a map in which it is another one now
  module _ {found : Value} (there : Some found ≡ value_at names pairs name) where
    pub has_place-there : has_place path old ≡ has_place rest (view found)
    has_place-there = as_whole (λ p t. has_place p t ≡ has_place rest (view found))
        (has_place-in name rest (members_view pairs) (view found) (in_view there))

    module _ (now : Value) (m : Map) (distinct : IsDistinct string_eq (keys_of pairs))
        (is_m : m.pairs ≡ set_value names pairs name now) where
      written : {t : Tree} → view now ≡ t → view (Object m) ≡ object (put_member t name (members_view pairs))
      written is = view-Object m ∙ ap (λ ps. object (members_view ps)) is_m
          ∙ ap object (put_member-there pairs name now distinct (sym there) ∙ ap (λ u. put_member u name (members_view pairs)) is)

      pub set_at-there : (u : Tree) → view now ≡ set_at rest u (view found) → view (Object m) ≡ set_at path u old
      set_at-there u is = written is ∙ sym (as_whole
          (λ p t. set_at p u t ≡ object (put_member (set_at rest u (view found)) name (members_view pairs)))
          (set_at-in name rest u (members_view pairs) (view found) (in_view there)))

      pub edit_at-there : 0 < length rest → (f : List ℕ → Members → Members) → view now ≡ edit_at f rest (view found)
          → view (Object m) ≡ edit_at f path old
      edit_at-there more f is = written is ∙ sym (edit_at-found there more f)

      pub view-same : view now ≡ view found → view (Object m) ≡ old
      view-same is = written is ∙ ap object (put_member-own name (members_view pairs) (view found) (in_view there)) ∙ held

-- the path ends with the name
module _ {path : List (List ℕ)} {old : Tree} (pairs : List Entry) (name : List ℕ)
    (split : path ≡ name ∷ []) (held : object (members_view pairs) ≡ old) where
  pub member_at-last : member_at path old ≡ option_map view (value_at names pairs name)
  member_at-last = as_whole pairs name split held (λ p t. member_at p t ≡ option_map view (value_at names pairs name))
      (alone (get_member name (members_view pairs)) ∙ get_member-view pairs name)
    where
      alone : (o : Option Tree) → option_and_then (get_at []) o ≡ o
      alone None = refl
      alone (Some t) = refl

  pub edit_at-last : (f : List ℕ → Members → Members) (m : Map) → members_view m.pairs ≡ f name (members_view pairs)
      → view (Object m) ≡ edit_at f path old
  edit_at-last f m is = view-Object m ∙ ap object is
      ∙ as_whole pairs name split held (λ p t. object (f name (members_view pairs)) ≡ edit_at f p t) refl

  pub set_at-last : (v : Value) (m : Map) → members_view m.pairs ≡ put_member (view v) name (members_view pairs)
      → view (Object m) ≡ set_at path (view v) old
  set_at-last v m is = view-Object m ∙ ap object is
      ∙ as_whole pairs name split held (λ p t. object (put_member (view v) name (members_view pairs)) ≡ set_at p (view v) t) refl

-- what a path that is split, and a value that is taken apart, were
pub path_split : (path : List (Bor (List ℕ))) (o : Option (Bor (Bor (List ℕ)) × Bor (List (Bor (List ℕ)))))
    {name : Bor (Bor (List ℕ))} {rest : Bor (List (Bor (List ℕ)))} → o ≡ Some (name, rest)
    → MatchOption o (length path ≡ 0) (λ p. IsFirstAndRest path p.0.now p.1.now) → map deref path ≡ name.now.now ∷ map deref rest.now
path_split path o is cases =
    ap (map deref) (subst (λ o. MatchOption o (length path ≡ 0) (λ p. IsFirstAndRest path p.0.now p.1.now)) is cases).0

pub taken_out : {old : Tree} (o : Option Map) {m : Map} → o ≡ Some m → IfSome o (λ m. object (members_view m.pairs) ≡ old)
    → object (members_view m.pairs) ≡ old
taken_out {old} o is there = subst (λ (o : Option Map). IfSome o (λ m. object (members_view m.pairs) ≡ old)) is there

pub more-names : (path : List (Bor (List ℕ))) → false ≡ (length path == 0) → 0 < length (map deref path)
more-names [] some = absurd (cc)
more-names (name ∷ path) some = omega arith

pub no_names : (path : List (Bor (List ℕ))) → true ≡ (length path == 0) → map deref path ≡ []
no_names [] none = refl
no_names (name ∷ path) none = absurd (omega (arith, eqb-true (length (name ∷ path)) 0 (sym none)))

pub is_some-view : (pairs : List Entry) (name : List ℕ) → is_some (get_member name (members_view pairs)) ≡ is_some (find names pairs name)
is_some-view pairs name = ap is_some (get_member-view pairs name) ∙ by_found (find names pairs name)
  where
    by_found : (o : Option Entry) → is_some (option_map view (option_map (λ (p : Entry). p.1) o)) ≡ is_some o
    by_found None = refl
    by_found (Some p) = refl

pub no_find : (o : Option Entry) → is_some o ≡ false → o ≡ None
no_find None none = refl
no_find (Some p) none = absurd (cc)

pub on_none_weaker : {T P Q : Type 0} (o : Option T) → (P → Q) → IfNone o P → IfNone o Q
on_none_weaker None then is = then is
on_none_weaker (Some x) then is = is
