-- For callers: what each text finds after a change, at `String` keys. The first part of a
-- conclusion shows `grind` the lookup or the call.
use Rattle.std.proofs.Common.{◌≡◌, ◌⊎◌, inl, inr, ℕ, Bool, List, [], ◌∷◌, ◌++◌, Option, Some, None, option_map, is_some, cond, true, false}
use Rattle.std.proofs.Common.{filter, map, not, refl, sym, ap, ◌∙◌, arith}
use Rattle.std.proofs.lemmas.{Cmp.nat_list_eq_equiv, List.Elements.filter-append}
use Rattle.std.specs.{Cmp.Lexicographic.bytes_decides, Prelude.String, Prelude.string_eq, declared.alloc.Global.Global, Str.bytes_eq}
use Rattle.std.specs.{String.string_bytes, String.string_eq_equiv, Map.keys_of, Map.values_of}
use Rattle.linked_hash_map.{specs.declared.map.Mode.Mode, proofs.Callers.Updates.Updates-put}
use Rattle.linked_hash_map.specs.Pairs.{find, value_at, without, set_value, set_or_push, put}
use Rattle.linked_hash_map.proofs.Callers.Keys.{find-none, set_value-none, put-absent, keys_of-without, keys_of-set_or_push}
use Rattle.linked_hash_map.proofs.Callers.Lookups.{value_at-without, value_at-without_append}
use Rattle.linked_hash_map.proofs.Callers.Texts.{is_text, is_text-find, find-is_text, value_at-updated, by_bytes, by_bytes-without}
use Rattle.linked_hash_map.proofs.Callers.Texts.{value_at-by_bytes, values_of-by_bytes}

-- `is_text` of strings that the system allocated, since `grind` matches none of `is_text`
abbrev pub names : List ℕ → String Global → Bool
names text key = bytes_eq text (string_bytes key)

-- what a text finds, a key with its bytes finds, in all pairs: what is said of each key says it of
-- each text
module _ {V : Type 0} (pairs : List (String Global × V)) (text : List ℕ) where
  abbrev FindsAlike : String Global → Type 0
  FindsAlike key = (string_bytes key ≡ text) × (find string_eq pairs key ≡ find names pairs text)
      × ((others : List (String Global × V)) → find string_eq others key ≡ find names others text)

  pub find-by_key : (find names pairs text ≡ find names pairs text) × ((t : List ℕ) → bytes_eq t text ≡ true → t ≡ text)
      × ((find names pairs text ≡ None) ⊎ ((key : String Global) × FindsAlike key))
  find-by_key = (refl, (λ t. (bytes_decides t text).0), by_pair (find names pairs text) refl)
    where
      by_pair : (o : Option (String Global × V)) → find names pairs text ≡ o
          → (find names pairs text ≡ None) ⊎ ((key : String Global) × FindsAlike key)
      by_pair None none = inl none
      by_pair (Some pair) found =
          let bytes : string_bytes pair.0 ≡ text =
          sym ((bytes_decides text (string_bytes pair.0)).0 (is_text-find pairs text pair found)) in
          let alike : (others : List (String Global × V)) → find string_eq others pair.0 ≡ find names others text =
          λ others. find-is_text others text pair.0 bytes in
          inr (pair.0, (bytes, alike pairs, alike))

module _ {V : Type 0} where
  -- after a write by the text: the value that was written, if it had one
  pub value_at-set_value : (pairs : List (String Global × V)) (text : List ℕ) (v : V)
      → value_at names (set_value names pairs text v) text ≡ option_map (λ _. v) (value_at names pairs text)
  value_at-set_value [] text v = refl
  value_at-set_value (pair ∷ pairs) text v = grind (arith, value_at-set_value pairs text v)

  -- after an insertion
  pub value_at-put_text : (mode : Mode) (pairs : List (String Global × V)) (k : String Global) (v : V)
      → (put string_eq mode pairs k v ≡ put string_eq mode pairs k v)
      × ((q : List ℕ) → value_at names (put string_eq mode pairs k v) q
      ≡ cond (bytes_eq (string_bytes k) q) (Some v) (value_at names pairs q))
  value_at-put_text mode pairs k v = (
    refl,
    λ q. value_at-updated pairs (put string_eq mode pairs k v) (string_bytes k) q (Some v)
        (Updates-put (string_eq_equiv {Z = Global}) mode pairs (put string_eq mode pairs k v) k v refl),
  )

  -- after a removal by another text
  pub value_at-removed_text : (after : List (String Global × V)) (q text : List ℕ) (pairs : List (String Global × V))
      → bytes_eq text q ≡ false → after ≡ without names pairs text
      → (value_at names after q ≡ value_at names after q) × (value_at names after q ≡ value_at names pairs q)
  value_at-removed_text after q text pairs apart is = (
    refl,
    ap (λ ps. value_at names ps q) is ∙ sym (value_at-by_bytes (without is_text pairs text) q)
        ∙ ap (λ ps. value_at bytes_eq ps q) (by_bytes-without pairs text)
        ∙ value_at-without nat_list_eq_equiv (by_bytes pairs) text q
        ∙ ap (λ b. cond b None (value_at bytes_eq (by_bytes pairs) q)) apart
        ∙ value_at-by_bytes pairs q,
  )

  -- a new pair is put behind the others, and stays there if another one is removed
  pub without-push_text : (mode : Mode) (pairs : List (String Global × V)) (k : String Global) (v : V)
      → find names pairs (string_bytes k) ≡ None → (put string_eq mode pairs k v ≡ pairs ++ (k, v) ∷ [])
      × ((text : List ℕ) → is_some (find names pairs text) ≡ true
      → without names (pairs ++ (k, v) ∷ []) text ≡ without names pairs text ++ (k, v) ∷ [])
  without-push_text mode pairs k v new = (
    put-absent string_eq mode pairs k v new,
    λ text there.
        let same : names text k ≡ true → find names pairs text ≡ find names pairs (string_bytes k) =
        λ is. ap (λ (t : List ℕ). find names pairs t) ((bytes_decides text (string_bytes k)).0 is) in
        grind (arith, filter-append, same),
  )

-- the pairs after an insertion of a new text and a removal of another
pub ruleset text_pairs = (without-push_text)

-- at texts
module _ {V : Type 0} (pairs : List (String Global × V)) (k : String Global) where
  pub keys_of-without_text : (without string_eq pairs k ≡ without string_eq pairs k)
      × (keys_of (without string_eq pairs k) ≡ filter (λ j. not (string_eq k j)) (keys_of pairs))
  keys_of-without_text = (refl, keys_of-without string_eq pairs k)

  pub keys_of-set_or_push_text : (v : V)
      → (set_or_push string_eq pairs k v ≡ set_or_push string_eq pairs k v)
      × (keys_of (set_or_push string_eq pairs k v)
      ≡ cond (is_some (find string_eq pairs k)) (keys_of pairs) (keys_of pairs ++ k ∷ []))
  keys_of-set_or_push_text v = (refl, keys_of-set_or_push string_eq pairs k v)

-- the keys after an insertion in Keep, and after a removal, at texts
pub ruleset text_keys = (keys_of-without_text, keys_of-set_or_push_text)

-- what bytes find after the bytes k were put behind the others
pub value_at-put_bytes : {V : Type 0} (pairs : List (List ℕ × V)) (k : List ℕ) (v : V)
    → (without bytes_eq pairs k ++ (k, v) ∷ [] ≡ without bytes_eq pairs k ++ (k, v) ∷ [])
    × (value_at bytes_eq (without bytes_eq pairs k ++ (k, v) ∷ []) k ≡ Some v)
    × ((q : List ℕ) → bytes_eq k q ≡ false
    → value_at bytes_eq (without bytes_eq pairs k ++ (k, v) ∷ []) q ≡ value_at bytes_eq pairs q)
value_at-put_bytes pairs k v = let is = value_at-without_append nat_list_eq_equiv pairs k in (
  refl,
  is k v ∙ ap (λ b. cond b (Some v) (value_at bytes_eq pairs k)) (nat_list_eq_equiv.refl k),
  λ q apart. is q v ∙ ap (λ b. cond b (Some v) (value_at bytes_eq pairs q)) apart,
)

-- a text finds what its bytes find in the view
pub value_at-text_bytes : {V : Type 0} (pairs : List (String Global × V)) (text : List ℕ)
    → value_at (λ (t : List ℕ) (key : String Global). bytes_eq t (string_bytes key)) pairs text
    ≡ value_at bytes_eq (map (λ (pair : String Global × V). (string_bytes pair.0, pair.1)) pairs) text
value_at-text_bytes pairs text = sym (value_at-by_bytes pairs text)

pub values_of-text_bytes : {V : Type 0} (pairs : List (String Global × V))
    → values_of (map (λ (pair : String Global × V). (string_bytes pair.0, pair.1)) pairs) ≡ values_of pairs
values_of-text_bytes pairs = values_of-by_bytes pairs

-- what bytes find after an insertion, in a view by the bytes of the keys
pub ruleset byte_keys = (value_at-put_bytes, value_at-text_bytes, values_of-text_bytes)

-- what each text finds after each call
pub ruleset text_lookups =
    (find-by_key, value_at-set_value, value_at-put_text, value_at-removed_text, find-none, set_value-none)
