-- A member that is renamed: a new pair is put right before it, and the old one leaves.
use Rattle.std.proofs.Common.{◌≡◌, ℕ, List, [], ◌∷◌, ◌++◌, Option, Some, None, option_map, is_some, cond, Bool, true, false}
use Rattle.std.proofs.Common.{refl, sym, ap, subst, ap₂, ◌&&◌, unwrap_or, ◌∙◌, String, one-add}
use Rattle.std.proofs.lemmas.Map.Keys.{IsDistinct-tail}
use Rattle.std.specs.Cmp.Lexicographic.{bytes_decides, nat_list_eq_equiv}
use Rattle.std.specs.List.{IsDistinct}
use Rattle.std.specs.Map.{keys_of}
use Rattle.std.specs.Str.{bytes_eq}
use Rattle.std.specs.String.{string_bytes, string_eq}
use Rattle.std.specs.declared.alloc.Global.{Global}
use Rattle.linked_hash_map.specs.Pairs.{find, value_at, set_value, without, to_before}
use Rattle.linked_hash_map.proofs.Callers.Keys.{set_value-none, without-absent}
use Rattle.uses.specs.Trees.{member, rename_member}
use Rattle.uses.specs.Documents.{view, members_view}
use Rattle.uses.specs.Texts.{names}
use Rattle.uses.specs.declared.nested.Value.{Value}
use Rattle.uses.proofs.Edits.{rename_member-absent}
use Rattle.uses.proofs.TreeViews.{Entry, get_member-view, find-behind}

-- a pair that neither name looks up stays in front
to_before-cons : (pair : Entry) (pairs : List Entry) (to from : List ℕ) → names to pair.0 ≡ false → names from pair.0 ≡ false
    → to_before names names (pair ∷ pairs) to from ≡ pair ∷ to_before names names pairs to from
to_before-cons pair pairs to from new old = rw (old, one-add, new) refl

module _ (key : String Global) (w : Value) (from : List ℕ) where
  abbrev before : List Entry → List Entry
  before [] = []
  before (p ∷ ps) = cond (names from p.0) ((key, w) ∷ p ∷ ps) (p ∷ before ps)

  abbrev instead : List Entry → List Entry
  instead [] = []
  instead (p ∷ ps) = cond (names from p.0) ((key, w) ∷ ps) (p ∷ instead ps)

  without-pushed : (pairs : List Entry) → find names pairs (string_bytes key) ≡ None
      → (find names (pairs ++ (key, w) ∷ []) (string_bytes key) ≡ Some (key, w))
      × (without names (pairs ++ (key, w) ∷ []) (string_bytes key) ≡ pairs)
  without-pushed [] none = rw (nat_list_eq_equiv.refl (string_bytes key)) (refl, refl)
  without-pushed (p ∷ ps) none = by_test (without-pushed ps) (names (string_bytes key) p.0) refl none
    where
      by_test : (find names ps (string_bytes key) ≡ None
          → (find names (ps ++ (key, w) ∷ []) (string_bytes key) ≡ Some (key, w))
          × (without names (ps ++ (key, w) ∷ []) (string_bytes key) ≡ ps))
          → (b : Bool) → names (string_bytes key) p.0 ≡ b → cond b (Some p) (find names ps (string_bytes key)) ≡ None
          → (find names (p ∷ (ps ++ (key, w) ∷ [])) (string_bytes key) ≡ Some (key, w))
          × (without names (p ∷ (ps ++ (key, w) ∷ [])) (string_bytes key) ≡ p ∷ ps)
      by_test rest true same is = absurd (cc)
      by_test rest false apart is = rw apart ((rest is).0, ap (λ qs. p ∷ qs) (rest is).1)

  module _ (apart : bytes_eq from (string_bytes key) ≡ false) where
    -- a key with the old name has not the new one
    not_new : (p : Entry) → names from p.0 ≡ true → names (string_bytes key) p.0 ≡ false
    not_new p same = by_test (names (string_bytes key) p.0) refl
      where
        by_test : (b : Bool) → names (string_bytes key) p.0 ≡ b → b ≡ false
        by_test true alike = sym (ap (bytes_eq from) ((bytes_decides (string_bytes key) (string_bytes p.0)).0 alike) ∙ same) ∙ apart
        by_test false alike = refl

    to_before-before : (pairs : List Entry) → find names pairs (string_bytes key) ≡ None → is_some (find names pairs from) ≡ true
        → to_before names names (pairs ++ (key, w) ∷ []) (string_bytes key) from ≡ before pairs
    to_before-before [] none there = absurd (cc)
    to_before-before (p ∷ ps) none there =
        by_test (to_before-before ps) (names from p.0) refl there (names (string_bytes key) p.0) refl none
      where
        by_test : (find names ps (string_bytes key) ≡ None → is_some (find names ps from) ≡ true
            → to_before names names (ps ++ (key, w) ∷ []) (string_bytes key) from ≡ before ps)
            → (a : Bool) → names from p.0 ≡ a → is_some (cond a (Some p) (find names ps from)) ≡ true
            → (b : Bool) → names (string_bytes key) p.0 ≡ b → cond b (Some p) (find names ps (string_bytes key)) ≡ None
            → to_before names names (p ∷ (ps ++ (key, w) ∷ [])) (string_bytes key) from ≡ cond a ((key, w) ∷ p ∷ ps) (p ∷ before ps)
        by_test rest a old is true new none = absurd (cc)
        by_test rest true old is false new none =
            rw (old, new, (without-pushed ps none).0, (without-pushed ps none).1) refl
        by_test rest false old is false new none =
            to_before-cons p (ps ++ (key, w) ∷ []) (string_bytes key) from new old ∙ ap (λ qs. p ∷ qs) (rest none is)

    find-before : (pairs : List Entry) → find names (before pairs) from ≡ find names pairs from
    find-before [] = refl
    find-before (p ∷ ps) = by_test (find-before ps) (names from p.0) refl
      where
        by_test : find names (before ps) from ≡ find names ps from → (b : Bool) → names from p.0 ≡ b
            → find names (cond b ((key, w) ∷ p ∷ ps) (p ∷ before ps)) from ≡ cond b (Some p) (find names ps from)
        by_test rest true same = rw (apart, same) refl
        by_test rest false differ = rw differ rest

    without-before : (pairs : List Entry) → IsDistinct string_eq (keys_of pairs) → without names (before pairs) from ≡ instead pairs
    without-before [] distinct = refl
    without-before (p ∷ ps) distinct =
        by_test (without-before ps (IsDistinct-tail string_eq p.0 (keys_of ps) distinct)) (names from p.0) refl
      where
        by_test : without names (before ps) from ≡ instead ps → (b : Bool) → names from p.0 ≡ b
            → without names (cond b ((key, w) ∷ p ∷ ps) (p ∷ before ps)) from ≡ cond b ((key, w) ∷ ps) (p ∷ instead ps)
        by_test rest true same =
            rw (apart, same) (ap (λ qs. (key, w) ∷ qs) (without-absent names ps from (find-behind p ps from distinct same)))
        by_test rest false differ = rw differ (ap (λ qs. p ∷ qs) rest)

    members_view-instead : (pairs : List Entry) (v : Value) → IsDistinct string_eq (keys_of pairs)
        → find names pairs (string_bytes key) ≡ None → value_at names pairs from ≡ Some v
        → members_view (set_value names (instead pairs) (string_bytes key) v)
        ≡ rename_member (string_bytes key) from (members_view pairs)
    members_view-instead [] v distinct none there = absurd (cc)
    members_view-instead (p ∷ ps) v distinct none there =
        by_test (members_view-instead ps v (IsDistinct-tail string_eq p.0 (keys_of ps) distinct)) (names from p.0) refl there
        (names (string_bytes key) p.0) refl none
      where
        by_test : (find names ps (string_bytes key) ≡ None → value_at names ps from ≡ Some v
            → members_view (set_value names (instead ps) (string_bytes key) v)
            ≡ rename_member (string_bytes key) from (members_view ps))
            → (a : Bool) → names from p.0 ≡ a → option_map (λ q. q.1) (cond a (Some p) (find names ps from)) ≡ Some v
            → (b : Bool) → names (string_bytes key) p.0 ≡ b → cond b (Some p) (find names ps (string_bytes key)) ≡ None
            → members_view (set_value names (cond a ((key, w) ∷ ps) (p ∷ instead ps)) (string_bytes key) v)
            ≡ member (cond a (string_bytes key) (string_bytes p.0)) (view p.1) (rename_member (string_bytes key) from (members_view ps))
        by_test rest a old is true new none = absurd (cc)
        by_test rest true old is false new none =
            let v_is : p.1 ≡ v = cc in
            let gone = get_member-view ps from ∙ ap (λ o. option_map view (option_map (λ q. q.1) o)) (find-behind p ps from distinct old) in
            rw (nat_list_eq_equiv.refl (string_bytes key), set_value-none names ps (string_bytes key) v none, v_is)
            (ap (member (string_bytes key) (view v)) (sym (rename_member-absent (string_bytes key) from (members_view ps) gone)))
        by_test rest false old is false new none = rw new (ap (member (string_bytes p.0) (view p.1)) (rest none is))

    find-pushed : (pairs : List Entry) → is_some (find names pairs from) ≡ true → is_some (find names (pairs ++ (key, w) ∷ []) from) ≡ true
    find-pushed [] there = absurd (cc)
    find-pushed (p ∷ ps) there = by_test (find-pushed ps) (names from p.0) there
      where
        by_test : (is_some (find names ps from) ≡ true → is_some (find names (ps ++ (key, w) ∷ []) from) ≡ true)
            → (b : Bool) → is_some (cond b (Some p) (find names ps from)) ≡ true
            → is_some (cond b (Some p) (find names (ps ++ (key, w) ∷ []) from)) ≡ true
        by_test rest true is = refl
        by_test rest false is = rest is

    -- the calls of a renaming, one after another
    members_view-renamed : (pairs inserted moved removed final : List Entry) (value : Option Value)
        → IsDistinct string_eq (keys_of pairs) → find names pairs (string_bytes key) ≡ None → is_some (find names pairs from) ≡ true
        → inserted ≡ pairs ++ (key, w) ∷ []
        → ((is_some (find names inserted (string_bytes key)) && is_some (find names inserted from)) ≡ true
        → moved ≡ to_before names names inserted (string_bytes key) from)
        → removed ≡ without names moved from → value ≡ value_at names moved from
        → final ≡ set_value names removed (string_bytes key) (unwrap_or value w)
        → members_view final ≡ rename_member (string_bytes key) from (members_view pairs)
    members_view-renamed pairs inserted moved removed final value distinct none there inserted_is moved_is removed_is value_is final_is =
        let both : (is_some (find names inserted (string_bytes key)) && is_some (find names inserted from)) ≡ true =
        ap (λ ps. is_some (find names ps (string_bytes key)) && is_some (find names ps from)) inserted_is
        ∙ ap₂ (λ a b. is_some a && b) (without-pushed pairs none).0 (find-pushed pairs there) in
        let is_before : moved ≡ before pairs =
        moved_is both ∙ ap (λ ps. to_before names names ps (string_bytes key) from) inserted_is ∙ to_before-before pairs none there in
        let is_instead : removed ≡ instead pairs =
        removed_is ∙ ap (λ ps. without names ps from) is_before ∙ without-before pairs distinct in
        let found : value ≡ value_at names pairs from =
        value_is ∙ ap (λ ps. value_at names ps from) is_before ∙ ap (option_map (λ q. q.1)) (find-before pairs) in
        by_value value found final_is is_instead
      where
        by_value : (o : Option Value) → o ≡ value_at names pairs from
            → final ≡ set_value names removed (string_bytes key) (unwrap_or o w) → removed ≡ instead pairs
            → members_view final ≡ rename_member (string_bytes key) from (members_view pairs)
        by_value None found is is_instead = absurd (by_pair (find names pairs from) there (sym found))
          where
            by_pair : (o : Option Entry) → is_some o ≡ true → option_map (λ q. q.1) o ≡ None → ⊥
            by_pair None some is = cc
            by_pair (Some q) some is = cc
        by_value (Some v) found is is_instead =
            ap members_view (is ∙ ap (λ ps. set_value names ps (string_bytes key) v) is_instead)
            ∙ members_view-instead pairs v distinct none (sym found)

  abbrev Renames : List ℕ → Type 0
  Renames to = bytes_eq from to ≡ false → (pairs inserted moved removed final : List Entry) (value : Option Value)
      → IsDistinct string_eq (keys_of pairs) → find names pairs to ≡ None → is_some (find names pairs from) ≡ true
      → inserted ≡ pairs ++ (key, w) ∷ []
      → ((is_some (find names inserted to) && is_some (find names inserted from)) ≡ true
      → moved ≡ to_before names names inserted to from)
      → removed ≡ without names moved from → value ≡ value_at names moved from
      → final ≡ set_value names removed to (unwrap_or value w)
      → members_view final ≡ rename_member to from (members_view pairs)

  pub renames : (to : List ℕ) → string_bytes key ≡ to → Renames to
  renames to bytes = subst Renames bytes members_view-renamed
