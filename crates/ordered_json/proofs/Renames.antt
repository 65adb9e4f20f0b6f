-- A member that is renamed: a new pair is put right before it, and the old one leaves.
use Rattle.std.proofs.Common.{◌≡◌, ℕ, List, [], ◌∷◌, ◌++◌, Option, Some, None, option_map, is_some, cond, Bool, true, false}
use Rattle.std.proofs.Common.{refl, sym, ap, subst, ap₂, ◌&&◌, IfSome, ◌∙◌, String, one-add}
use Rattle.std.proofs.lemmas.Map.Keys.{IsDistinct-tail}
use Rattle.std.specs.Cmp.Lexicographic.{bytes_decides, nat_list_eq_equiv}
use Rattle.std.specs.List.{IsDistinct}
use Rattle.std.specs.Map.{keys_of}
use Rattle.std.specs.Str.{bytes_eq}
use Rattle.std.specs.String.{string_bytes, string_eq}
use Rattle.std.specs.declared.alloc.Global.{Global}
use Rattle.linked_hash_map.specs.Pairs.{find, value_at, set_value, without, to_before}
use Rattle.linked_hash_map.proofs.Callers.Keys.{set_value-none, without-absent}
use Rattle.linked_hash_map.proofs.Callers.Texts.{is_text}
use Rattle.json.specs.Json.{Members, no_members, member}
use Rattle.ordered_json.specs.Edits.{rename_member}
use Rattle.ordered_json.specs.Pointers.{find_member}
use Rattle.ordered_json.specs.View.{view, members_view}
use Rattle.ordered_json.specs.declared.value.Value.{Value}
use Rattle.ordered_json.proofs.Children.{find_member-view, find-behind}
use Rattle.ordered_json.proofs.Views.{Entry}

pub is_some-view : (pairs : List Entry) (name : List ℕ) → is_some (find_member name (members_view pairs)) ≡ is_some
    (find is_text pairs name)
is_some-view pairs name = ap is_some (find_member-view pairs name) ∙ by_found (find is_text pairs name)
  where
    by_found : (o : Option Entry) → is_some (option_map view (option_map (λ (p : Entry). p.1) o)) ≡ is_some o
    by_found None = refl
    by_found (Some p) = refl

pub no_find : (o : Option Entry) → is_some o ≡ false → o ≡ None
no_find None none = refl
no_find (Some p) none = absurd (cc)

rename_member-absent : (to name : List ℕ) (ms : Members) → find_member name ms ≡ None → rename_member to name ms ≡ ms
rename_member-absent to name no_members none = refl
rename_member-absent to name (member other j ms) none = by_test (rename_member-absent to name ms) (bytes_eq name other) refl none
  where
    by_test : (find_member name ms ≡ None → rename_member to name ms ≡ ms)
        → (b : Bool) → bytes_eq name other ≡ b → cond b (Some j) (find_member name ms) ≡ None
        → rename_member to name (member other j ms) ≡ member other j ms
    by_test rest true same is = absurd (cc)
    by_test rest false apart is = rw apart (ap (member other j) (rest is))

-- a pair that neither name looks up stays in front
to_before-cons : (pair : Entry) (pairs : List Entry) (to from : List ℕ) → is_text to pair.0 ≡ false → is_text from pair.0 ≡ false
    → to_before is_text is_text (pair ∷ pairs) to from ≡ pair ∷ to_before is_text is_text pairs to from
to_before-cons pair pairs to from new old = rw (old, one-add, new) refl

module _ (key : String Global) (w : Value) (from : List ℕ) where
  abbrev before : List Entry → List Entry
  before [] = []
  before (p ∷ ps) = cond (is_text from p.0) ((key, w) ∷ p ∷ ps) (p ∷ before ps)

  abbrev instead : List Entry → List Entry
  instead [] = []
  instead (p ∷ ps) = cond (is_text from p.0) ((key, w) ∷ ps) (p ∷ instead ps)

  without-pushed : (pairs : List Entry) → find is_text pairs (string_bytes key) ≡ None
      → (find is_text (pairs ++ (key, w) ∷ []) (string_bytes key) ≡ Some (key, w))
      × (without is_text (pairs ++ (key, w) ∷ []) (string_bytes key) ≡ pairs)
  without-pushed [] none = rw (nat_list_eq_equiv.refl (string_bytes key)) (refl, refl)
  without-pushed (p ∷ ps) none = by_test (without-pushed ps) (is_text (string_bytes key) p.0) refl none
    where
      by_test : (find is_text ps (string_bytes key) ≡ None
          → (find is_text (ps ++ (key, w) ∷ []) (string_bytes key) ≡ Some (key, w))
          × (without is_text (ps ++ (key, w) ∷ []) (string_bytes key) ≡ ps))
          → (b : Bool) → is_text (string_bytes key) p.0 ≡ b → cond b (Some p) (find is_text ps (string_bytes key)) ≡ None
          → (find is_text (p ∷ (ps ++ (key, w) ∷ [])) (string_bytes key) ≡ Some (key, w))
          × (without is_text (p ∷ (ps ++ (key, w) ∷ [])) (string_bytes key) ≡ p ∷ ps)
      by_test rest true same is = absurd (cc)
      by_test rest false apart is = rw apart ((rest is).0, ap (λ qs. p ∷ qs) (rest is).1)

  module _ (apart : bytes_eq from (string_bytes key) ≡ false) where
    -- a key with the old name has not the new one
    not_new : (p : Entry) → is_text from p.0 ≡ true → is_text (string_bytes key) p.0 ≡ false
    not_new p same = by_test (is_text (string_bytes key) p.0) refl
      where
        by_test : (b : Bool) → is_text (string_bytes key) p.0 ≡ b → b ≡ false
        by_test true alike = sym (ap (bytes_eq from) ((bytes_decides (string_bytes key) (string_bytes p.0)).0 alike) ∙ same) ∙ apart
        by_test false alike = refl

    to_before-before : (pairs : List Entry) → find is_text pairs (string_bytes key) ≡ None → is_some (find is_text pairs from) ≡ true
        → to_before is_text is_text (pairs ++ (key, w) ∷ []) (string_bytes key) from ≡ before pairs
    to_before-before [] none there = absurd (cc)
    to_before-before (p ∷ ps) none there =
        by_test (to_before-before ps) (is_text from p.0) refl there (is_text (string_bytes key) p.0) refl none
      where
        by_test : (find is_text ps (string_bytes key) ≡ None → is_some (find is_text ps from) ≡ true
            → to_before is_text is_text (ps ++ (key, w) ∷ []) (string_bytes key) from ≡ before ps)
            → (a : Bool) → is_text from p.0 ≡ a → is_some (cond a (Some p) (find is_text ps from)) ≡ true
            → (b : Bool) → is_text (string_bytes key) p.0 ≡ b → cond b (Some p) (find is_text ps (string_bytes key)) ≡ None
            → to_before is_text is_text (p ∷ (ps ++ (key, w) ∷ [])) (string_bytes key) from ≡ cond a ((key, w) ∷ p ∷ ps) (p ∷ before ps)
        by_test rest a old is true new none = absurd (cc)
        by_test rest true old is false new none =
            rw (old, new, (without-pushed ps none).0, (without-pushed ps none).1) refl
        by_test rest false old is false new none =
            to_before-cons p (ps ++ (key, w) ∷ []) (string_bytes key) from new old ∙ ap (λ qs. p ∷ qs) (rest none is)

    find-before : (pairs : List Entry) → find is_text (before pairs) from ≡ find is_text pairs from
    find-before [] = refl
    find-before (p ∷ ps) = by_test (find-before ps) (is_text from p.0) refl
      where
        by_test : find is_text (before ps) from ≡ find is_text ps from → (b : Bool) → is_text from p.0 ≡ b
            → find is_text (cond b ((key, w) ∷ p ∷ ps) (p ∷ before ps)) from ≡ cond b (Some p) (find is_text ps from)
        by_test rest true same = rw (apart, same) refl
        by_test rest false differ = rw differ rest

    without-before : (pairs : List Entry) → IsDistinct string_eq (keys_of pairs) → without is_text (before pairs) from ≡ instead pairs
    without-before [] distinct = refl
    without-before (p ∷ ps) distinct =
        by_test (without-before ps (IsDistinct-tail string_eq p.0 (keys_of ps) distinct)) (is_text from p.0) refl
      where
        by_test : without is_text (before ps) from ≡ instead ps → (b : Bool) → is_text from p.0 ≡ b
            → without is_text (cond b ((key, w) ∷ p ∷ ps) (p ∷ before ps)) from ≡ cond b ((key, w) ∷ ps) (p ∷ instead ps)
        by_test rest true same =
            rw (apart, same) (ap (λ qs. (key, w) ∷ qs) (without-absent is_text ps from (find-behind p ps from distinct same)))
        by_test rest false differ = rw differ (ap (λ qs. p ∷ qs) rest)

    members_view-instead : (pairs : List Entry) (v : Value) → IsDistinct string_eq (keys_of pairs)
        → find is_text pairs (string_bytes key) ≡ None → value_at is_text pairs from ≡ Some v
        → members_view (set_value is_text (instead pairs) (string_bytes key) v)
        ≡ rename_member (string_bytes key) from (members_view pairs)
    members_view-instead [] v distinct none there = absurd (cc)
    members_view-instead (p ∷ ps) v distinct none there =
        by_test (members_view-instead ps v (IsDistinct-tail string_eq p.0 (keys_of ps) distinct)) (is_text from p.0) refl there
        (is_text (string_bytes key) p.0) refl none
      where
        by_test : (find is_text ps (string_bytes key) ≡ None → value_at is_text ps from ≡ Some v
            → members_view (set_value is_text (instead ps) (string_bytes key) v)
            ≡ rename_member (string_bytes key) from (members_view ps))
            → (a : Bool) → is_text from p.0 ≡ a → option_map (λ q. q.1) (cond a (Some p) (find is_text ps from)) ≡ Some v
            → (b : Bool) → is_text (string_bytes key) p.0 ≡ b → cond b (Some p) (find is_text ps (string_bytes key)) ≡ None
            → members_view (set_value is_text (cond a ((key, w) ∷ ps) (p ∷ instead ps)) (string_bytes key) v)
            ≡ member (cond a (string_bytes key) (string_bytes p.0)) (view p.1) (rename_member (string_bytes key) from (members_view ps))
        by_test rest a old is true new none = absurd (cc)
        by_test rest true old is false new none =
            let v_is : p.1 ≡ v = cc in
            let gone = find_member-view ps from ∙ ap (λ o. option_map view (option_map (λ q. q.1) o))
            (find-behind p ps from distinct old) in
            rw (nat_list_eq_equiv.refl (string_bytes key), set_value-none is_text ps (string_bytes key) v none, v_is)
            (ap (member (string_bytes key) (view v)) (sym (rename_member-absent (string_bytes key) from (members_view ps) gone)))
        by_test rest false old is false new none = rw new (ap (member (string_bytes p.0) (view p.1)) (rest none is))

    find-pushed : (pairs : List Entry) → is_some (find is_text pairs from) ≡ true
        → is_some (find is_text (pairs ++ (key, w) ∷ []) from) ≡ true
    find-pushed [] there = absurd (cc)
    find-pushed (p ∷ ps) there = by_test (find-pushed ps) (is_text from p.0) there
      where
        by_test : (is_some (find is_text ps from) ≡ true → is_some (find is_text (ps ++ (key, w) ∷ []) from) ≡ true)
            → (b : Bool) → is_some (cond b (Some p) (find is_text ps from)) ≡ true
            → is_some (cond b (Some p) (find is_text (ps ++ (key, w) ∷ []) from)) ≡ true
        by_test rest true is = refl
        by_test rest false is = rest is

    -- the calls of a renaming, one after another
    members_view-renamed : (pairs inserted moved removed final : List Entry) (value : Option Value)
        → IsDistinct string_eq (keys_of pairs) → find is_text pairs (string_bytes key) ≡ None → is_some (find is_text pairs from) ≡ true
        → inserted ≡ pairs ++ (key, w) ∷ []
        → ((is_some (find is_text inserted (string_bytes key)) && is_some (find is_text inserted from)) ≡ true
        → moved ≡ to_before is_text is_text inserted (string_bytes key) from)
        → removed ≡ without is_text moved from → value ≡ value_at is_text moved from
        → IfSome value (λ v. final ≡ set_value is_text removed (string_bytes key) v)
        → members_view final ≡ rename_member (string_bytes key) from (members_view pairs)
    members_view-renamed pairs inserted moved removed final value distinct none there inserted_is moved_is removed_is value_is final_is =
        let both : (is_some (find is_text inserted (string_bytes key)) && is_some (find is_text inserted from)) ≡ true =
        ap (λ ps. is_some (find is_text ps (string_bytes key)) && is_some (find is_text ps from)) inserted_is
        ∙ ap₂ (λ a b. is_some a && b) (without-pushed pairs none).0 (find-pushed pairs there) in
        let is_before : moved ≡ before pairs =
        moved_is both ∙ ap (λ ps. to_before is_text is_text ps (string_bytes key) from) inserted_is ∙ to_before-before pairs none there in
        let is_instead : removed ≡ instead pairs =
        removed_is ∙ ap (λ ps. without is_text ps from) is_before ∙ without-before pairs distinct in
        let found : value ≡ value_at is_text pairs from =
        value_is ∙ ap (λ ps. value_at is_text ps from) is_before ∙ ap (option_map (λ q. q.1)) (find-before pairs) in
        by_value value found final_is is_instead
      where
        by_value : (o : Option Value) → o ≡ value_at is_text pairs from
            → IfSome o (λ v. final ≡ set_value is_text removed (string_bytes key) v) → removed ≡ instead pairs
            → members_view final ≡ rename_member (string_bytes key) from (members_view pairs)
        by_value None found is is_instead = absurd (by_pair (find is_text pairs from) there (sym found))
          where
            by_pair : (o : Option Entry) → is_some o ≡ true → option_map (λ q. q.1) o ≡ None → ⊥
            by_pair None some is = cc
            by_pair (Some q) some is = cc
        by_value (Some v) found is is_instead =
            ap members_view (is ∙ ap (λ ps. set_value is_text ps (string_bytes key) v) is_instead)
            ∙ members_view-instead pairs v distinct none (sym found)

  abbrev Renames : List ℕ → Type 0
  Renames to = bytes_eq from to ≡ false → (pairs inserted moved removed final : List Entry) (value : Option Value)
      → IsDistinct string_eq (keys_of pairs) → find is_text pairs to ≡ None → is_some (find is_text pairs from) ≡ true
      → inserted ≡ pairs ++ (key, w) ∷ []
      → ((is_some (find is_text inserted to) && is_some (find is_text inserted from)) ≡ true
      → moved ≡ to_before is_text is_text inserted to from)
      → removed ≡ without is_text moved from → value ≡ value_at is_text moved from
      → IfSome value (λ v. final ≡ set_value is_text removed to v)
      → members_view final ≡ rename_member to from (members_view pairs)

  pub renames : (to : List ℕ) → string_bytes key ≡ to → Renames to
  renames to bytes = subst Renames bytes members_view-renamed
