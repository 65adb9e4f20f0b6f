-- For callers: `String` keys that are looked up as texts, and the laws of the equality of `&str`
-- keys.
use Rattle.std.proofs.Common.{◌≡◌, ℕ, ◌+◌, ◌<◌, length, take, get_or, unwrap_or, Bool, true, false, cond, List, [], ◌∷◌, ◌++◌, map, drop}
use Rattle.std.proofs.Common.{Option, Some, None, refl, sym, ap, ap₂, ◌∙◌, arith}
use Rattle.std.proofs.lemmas.{Cmp.nat_list_eq_equiv, List.map-append, List.Sums.count_by_more_yes, List.Sums.count_by_more_no}
use Rattle.std.specs.{Borrow.Bor, Cmp.IsEquivalence, Cmp.Lexicographic.bytes_decides, List.count_by, Map.values_of, Map.AreApart}
use Rattle.std.specs.{Prelude.String, Prelude.string_eq, Str.bytes_eq, String.string_bytes, String.string_eq_equiv}
use Rattle.linked_hash_map.specs.Pairs.{key_or, find, value_at, without, without_first, to_back, put}
use Rattle.linked_hash_map.specs.{declared.map.Mode.Mode, declared.map.Mode.TheVariants.Touch, Updates.UpdatesBy}
use Rattle.linked_hash_map.proofs.Callers.{Keys.find-drop, Lookups.eq-stored, Updates.passes-lookup_entry, Updates.lookup_entry-updated}

-- two texts that are lent are the same
abbrev pub same_text : Bor (List ℕ) → Bor (List ℕ) → Bool
same_text x y = bytes_eq x.now y.now

pub same_text-laws : IsEquivalence same_text
same_text-laws = record {
  refl = λ x. nat_list_eq_equiv.refl x.now;
  symm = λ x y. nat_list_eq_equiv.symm x.now y.now;
  congr = λ x y z. nat_list_eq_equiv.congr x.now y.now z.now;
}

-- the text looks up the key
abbrev pub is_text : {Y : Type 0} → List ℕ → String Y → Bool
is_text text key = bytes_eq text (string_bytes key)

-- the pairs with the bytes of their keys
abbrev pub by_bytes : {Y V : Type 0} → List (String Y × V) → List (List ℕ × V)
by_bytes pairs = map (λ pair. (string_bytes pair.0, pair.1)) pairs

module _ {Y V : Type 0} where
  -- a text finds what a key with its bytes finds
  pub find-is_text : (pairs : List (String Y × V)) (text : List ℕ) (key : String Y) → string_bytes key ≡ text
      → find string_eq pairs key ≡ find is_text pairs text
  find-is_text pairs text key bytes = ap (λ (t : List ℕ). find is_text pairs t) bytes

  -- and its bytes are those of the text
  pub is_text-find : (pairs : List (String Y × V)) (text : List ℕ) (pair : String Y × V)
      → find is_text pairs text ≡ Some pair → is_text text pair.0 ≡ true
  is_text-find pairs text = passes-lookup_entry (is_text text) pairs

  -- what another text finds after a change by a text
  module _ (before after : List (String Y × V)) (text other : List ℕ) (value : Option V)
      (updates : UpdatesBy string_eq before after (is_text text) value) where
    are_apart : bytes_eq text other ≡ false → AreApart {K = String Y} (is_text text) (is_text other)
    are_apart apart = λ key same. let laws = nat_list_eq_equiv in
        laws.symm other (string_bytes key) ∙ sym (laws.congr text (string_bytes key) other same) ∙ apart

    pub value_at-updated : value_at is_text after other ≡ cond (bytes_eq text other) value (value_at is_text before other)
    value_at-updated = by_test (bytes_eq text other) refl
      where
        by_test : (b : Bool) → bytes_eq text other ≡ b → value_at is_text after other ≡ cond b value (value_at is_text before other)
        by_test true same = ap (λ (t : List ℕ). value_at is_text after t) (sym ((bytes_decides text other).0 same)) ∙ updates.here
        by_test false apart = lookup_entry-updated before after (is_text text) (is_text other) value updates
            (λ x y. nat_list_eq_equiv.congr other (string_bytes x) (string_bytes y)) (are_apart apart)

  -- lookups and calls, seen by the bytes of the keys
  pub values_of-by_bytes : (pairs : List (String Y × V)) → values_of (by_bytes pairs) ≡ values_of pairs
  values_of-by_bytes [] = refl
  values_of-by_bytes (pair ∷ pairs) = ap (λ vs. pair.1 ∷ vs) (values_of-by_bytes pairs)

  pub value_at-by_bytes : (pairs : List (String Y × V)) (text : List ℕ)
      → value_at bytes_eq (by_bytes pairs) text ≡ value_at is_text pairs text
  value_at-by_bytes [] text = refl
  value_at-by_bytes (pair ∷ pairs) text = grind (arith, value_at-by_bytes pairs text)

  pub by_bytes-without : (pairs : List (String Y × V)) (text : List ℕ)
      → by_bytes (without is_text pairs text) ≡ without bytes_eq (by_bytes pairs) text
  by_bytes-without [] text = refl
  by_bytes-without (pair ∷ pairs) text = grind (arith, by_bytes-without pairs text)

  pub by_bytes-append : (pairs : List (String Y × V)) (key : String Y) (v : V)
      → by_bytes (pairs ++ (key, v) ∷ []) ≡ by_bytes pairs ++ (string_bytes key, v) ∷ []
  by_bytes-append pairs key v = map-append (λ (pair : String Y × V). (string_bytes pair.0, pair.1)) pairs ((key, v) ∷ [])

  -- an insertion in Touch
  pub by_bytes-to_back : (pairs : List (String Y × V)) (key : String Y) (v : V)
      → by_bytes (to_back string_eq pairs key v) ≡ without bytes_eq (by_bytes pairs) (string_bytes key) ++ (string_bytes key, v) ∷ []
  by_bytes-to_back pairs key v = let stored = key_or key (find string_eq pairs key) in
      by_bytes-append (without string_eq pairs key) stored v
      ∙ ap₂ (λ (ps : List (List ℕ × V)) (t : List ℕ). ps ++ (t, v) ∷ []) (by_bytes-without pairs (string_bytes key))
      (sym ((bytes_decides (string_bytes key) (string_bytes stored)).0 (eq-stored (string_eq_equiv {Z = Y}) pairs key)))

  -- what a removal and an insertion leave of a view
  pub by_bytes-removed : (pairs : List (String Y × V)) (text : List ℕ) {after : List (String Y × V)} {view : List (List ℕ × V)}
      → after ≡ without is_text pairs text → by_bytes pairs ≡ view → by_bytes after ≡ without bytes_eq view text
  by_bytes-removed pairs text removed view_is = grind (arith, by_bytes-without)

  pub by_bytes-inserted : (mode : Mode) (pairs : List (String Y × V)) (key : String Y) (v : V) (text : List ℕ)
      {after : List (String Y × V)} {view : List (List ℕ × V)}
      → after ≡ put string_eq mode pairs key v → mode ≡ Touch → string_bytes key ≡ text → by_bytes pairs ≡ view
      → by_bytes after ≡ without bytes_eq view text ++ (text, v) ∷ []
  by_bytes-inserted mode pairs key v text inserted touch bytes view_is = grind (arith, by_bytes-to_back)

  -- a text that finds nothing finds nothing without the first pair, nor does a key with its bytes
  pub find-drop_text : (pairs : List (String Y × V)) (text : List ℕ) (key : String Y) (n : ℕ) → string_bytes key ≡ text
      → find is_text pairs text ≡ None → find string_eq (drop n pairs) key ≡ None
  find-drop_text pairs text key n bytes none = find-is_text (drop n pairs) text key bytes ∙ find-drop is_text pairs text n none

  -- a key that is new goes behind the others, of which the first may have gone before
  pub by_bytes_pushed : (drops : Bool) (old : List (String Y × V)) (text : List ℕ) (key : String Y) (v : V)
      {before after : List (String Y × V)} → string_bytes key ≡ text → find is_text old text ≡ None
      → before ≡ cond drops (without_first old) old
      → (value_at string_eq before key ≡ None → after ≡ before ++ (key, v) ∷ [])
      → by_bytes after ≡ by_bytes (cond drops (without_first old) old) ++ (text, v) ∷ []
  by_bytes_pushed drops old text key v bytes absent left pushed = grind (arith, by_bytes-append, find-drop_text, find-is_text)

-- one text more is counted
pub count_by-updated : {Y : Type 0} (before after : List (String Y × ℕ)) (texts : List (Bor (List ℕ))) (i : ℕ)
    (d : Bor (List ℕ)) (q : List ℕ) → i < length texts
    → UpdatesBy string_eq before after (is_text (get_or texts i d).now)
    (Some (unwrap_or (value_at is_text before (get_or texts i d).now) 0 + 1))
    → unwrap_or (value_at is_text before q) 0 ≡ count_by (λ t. bytes_eq t.now q) (take i texts)
    → unwrap_or (value_at is_text after q) 0 ≡ count_by (λ t. bytes_eq t.now q) (take (i + 1) texts)
count_by-updated before after texts i d q within updates was =
    let text = (get_or texts i d).now in
    let P = λ (t : Bor (List ℕ)). bytes_eq t.now q in let same = (bytes_decides text q).0 in
    let now = value_at-updated before after text q (Some (unwrap_or (value_at is_text before text) 0 + 1)) updates in
    let yes = count_by_more_yes P texts i d within in let no = count_by_more_no P texts i d within in
    grind (arith, now, same, yes, no)
