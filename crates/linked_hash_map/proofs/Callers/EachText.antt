-- For callers: `String` keys that are looked up as texts. What is true of the bytes of each key and
-- its value is true of what a text finds, and still is after a call.
use Rattle.std.proofs.Common.{◌≡◌, ℕ, true, List, option_map, Option, Some, None, is_some, unwrap_or, refl, sym, ap, subst, true≢false}
use Rattle.std.specs.{Cmp.Lexicographic.bytes_decides, List.All, Prelude.String, Prelude.string_eq, String.string_bytes}
use Rattle.std.specs.{String.string_eq_equiv}
use Rattle.linked_hash_map.specs.Pairs.{find, value_at, without, to_back_as_is, to_front, put}
use Rattle.linked_hash_map.proofs.Callers.EachPair.{All-find, All-without, All-to_back_as_is, All-to_front, All-put}
use Rattle.linked_hash_map.{specs.declared.map.Mode.Mode, proofs.Callers.Texts.is_text, proofs.Callers.Texts.is_text-find}

-- P is true of the bytes of each key and its value
abbrev pub AllTexts : {Y V : Type 0} → (List ℕ → V → Type 0) → List (String Y × V) → Type 0
AllTexts P pairs = All (λ pair. P (string_bytes pair.0) pair.1) pairs

module _ {Y V : Type 0} (P : List ℕ → V → Type 0) where
  module _ (pairs : List (String Y × V)) (text : List ℕ) (all : AllTexts P pairs) where
    -- of a text and the value that it finds
    pub AllTexts-value_at : (v : V) → Some v ≡ value_at is_text pairs text → P text v
    AllTexts-value_at v found = by_pair (find is_text pairs text) refl found
      where
        by_pair : (o : Option (String Y × V)) → find is_text pairs text ≡ o → Some v ≡ option_map (λ pair. pair.1) o → P text v
        by_pair None is found = absurd (true≢false (ap is_some found))
        by_pair (Some pair) is found =
            let same = (bytes_decides text (string_bytes pair.0)).0 (is_text-find pairs text pair is) in
            subst (λ (t : List ℕ). P t v) (sym same)
            (subst (λ (w : V). P (string_bytes pair.0) w) (sym (ap (λ o. unwrap_or o pair.1) found))
            (All-find (λ p. P (string_bytes p.0) p.1) is_text pairs text all pair is))

    -- after a removal, or a move, by a text
    pub AllTexts-without : AllTexts P (without is_text pairs text)
    AllTexts-without = All-without (λ pair. P (string_bytes pair.0) pair.1) is_text pairs text all

    pub AllTexts-to_back_as_is : AllTexts P (to_back_as_is is_text pairs text)
    AllTexts-to_back_as_is = All-to_back_as_is (λ pair. P (string_bytes pair.0) pair.1) is_text pairs text all

    pub AllTexts-to_front : AllTexts P (to_front is_text pairs text)
    AllTexts-to_front = All-to_front (λ pair. P (string_bytes pair.0) pair.1) is_text pairs text all

  -- what is true of a key's bytes is true of those of each key that is the same
  pub right-string_eq : (key : String Y) (v : V) → P (string_bytes key) v → (other : String Y) → string_eq key other ≡ true
      → P (string_bytes other) v
  right-string_eq key v right other same =
      subst (λ (t : List ℕ). P t v) ((bytes_decides (string_bytes key) (string_bytes other)).0 same) right

  -- after an insertion, if it is true of the key and value that went in
  pub AllTexts-put : (mode : Mode) (pairs : List (String Y × V)) (key : String Y) (v : V) → AllTexts P pairs
      → P (string_bytes key) v → AllTexts P (put string_eq mode pairs key v)
  AllTexts-put mode pairs key v all right = All-put (λ pair. P (string_bytes pair.0) pair.1) (string_eq_equiv {Z = Y}) mode
      pairs key v all (right-string_eq key v right)
