-- For callers: a count for each text of a slice, one text after another.
use Rattle.std.proofs.Common.{◌≡◌, ℕ, ◌+◌, ◌<◌, ◌≤◌, length, length-take, take, take_all, get_or, unwrap_or, List, [], Some, refl, ap, ◌∙◌}
use Rattle.std.proofs.{Common.arith, lemmas.List.Sums.count_by-le-length}
use Rattle.std.specs.Prelude.{String, string_eq}
use Rattle.std.specs.{Borrow.Bor, List.count_by, declared.alloc.Global.Global, Str.bytes_eq, String.string_bytes}
use Rattle.linked_hash_map.specs.{Pairs.value_at, Updates.UpdatesBy}
use Rattle.linked_hash_map.proofs.Callers.Texts.{is_text, count_by-updated}

-- each text has as its count how often it comes, which is 0 if it has none
pub record CountsTexts (counts : List (String Global × ℕ)) (texts : List (Bor (List ℕ))) : Type 0 where
  pub count : (q : List ℕ) → unwrap_or (value_at is_text counts q) 0 ≡ count_by (λ t. bytes_eq t.now q) texts

-- the bytes of an item of a slice, as a loop over it has them
abbrev pub text_at : List (Bor (List ℕ)) → ℕ → List ℕ
text_at texts i = (get_or texts i (record { ref_ptr = (0, 0); now = [] })).now

pub CountsTexts-start : (counts : List (String Global × ℕ)) → counts ≡ [] → CountsTexts counts []
CountsTexts-start counts empty = record { count = λ q. ap (λ pairs. unwrap_or (value_at is_text pairs q) 0) empty }

-- a step of the loop: the next text is counted
pub CountsTexts-counted : {before after : List (String Global × ℕ)} (texts : List (Bor (List ℕ))) (i : ℕ)
    → CountsTexts before (take i texts) → i < length texts
    → UpdatesBy string_eq before after (is_text (text_at texts i)) (Some (unwrap_or (value_at is_text before (text_at texts i)) 0 + 1))
    → CountsTexts after (take (i + 1) texts)
CountsTexts-counted texts i w within updates = grind (arith, count_by-updated)

-- what a text has as its count; the first part shows the lookup, whose test is written out, since
-- `grind` matches no call of `is_text`
module _ (counts : List (String Global × ℕ)) (q : List ℕ) (texts : List (Bor (List ℕ))) (i : ℕ)
    (w : CountsTexts counts (take i texts)) where
  -- that of the next text is below the number of texts
  pub CountsTexts-below : i < length texts → q ≡ text_at texts i
      → (value_at (λ (t : List ℕ) (key : String Global). bytes_eq t (string_bytes key)) counts q
      ≡ value_at (λ (t : List ℕ) (key : String Global). bytes_eq t (string_bytes key)) counts q)
      × (unwrap_or (value_at (λ (t : List ℕ) (key : String Global). bytes_eq t (string_bytes key)) counts q) 0 < length texts)
  CountsTexts-below within is =
      let few = count_by-le-length (λ (t : Bor (List ℕ)). bytes_eq t.now q) (take i texts) in
      let some = length-take i texts in let same = w.count q in (refl, omega arith)

  -- at the end of the loop
  pub CountsTexts-all : length texts ≤ i
      → (value_at (λ (t : List ℕ) (key : String Global). bytes_eq t (string_bytes key)) counts q
      ≡ value_at (λ (t : List ℕ) (key : String Global). bytes_eq t (string_bytes key)) counts q)
      × (unwrap_or (value_at (λ (t : List ℕ) (key : String Global). bytes_eq t (string_bytes key)) counts q) 0
      ≡ count_by (λ t. bytes_eq t.now q) texts)
  CountsTexts-all past = (refl, w.count q ∙ ap (λ ts. count_by (λ (t : Bor (List ℕ)). bytes_eq t.now q) ts) (take_all i texts past))

-- maps that count texts
pub ruleset text_counts = (CountsTexts-start, CountsTexts-counted, CountsTexts-below, CountsTexts-all)
