-- One pass over the lines of an input.
use Rattle.std.proofs.Common.{ℕ, zero, suc, ◌-◌, ◌≡◌, Bool, true, false, cond, not, List, [], ◌∷◌, ◌++◌, drop, Option, None, Some, Result}
use Rattle.std.proofs.Common.{Ok, Err, refl, sym, ap, ◌∙◌, subst, append_assoc, true≢false}
use Rattle.std.proofs.lemmas.{List.append-nil, List.Concat.flat_map-append}
use Rattle.std.specs.{Prelude.IfSome, Prelude.OnOk, Io.KnownBytes.Appends, Io.KnownBytes.IsAtEnd}
use Rattle.dedup_lines.specs.Kept.{has_line, last_appearances, distinct_lines, unless_among, new_lines, kept_lines}
use Rattle.dedup_lines.specs.Lines.{lines_of, text_of, TakesLines}
use Rattle.dedup_lines.specs.{declared.keep.Keep.TheVariants.First, Push.to_back, Push.trimmed}
use Rattle.dedup_lines.proofs.Distinct.{distinct_lines-push, new_lines-push, new_lines-distinct}

TakesLines-nil : (known : Option (List ℕ)) → TakesLines known known []
TakesLines-nil None = tt
TakesLines-nil (Some xs) = refl

TakesLines-push : (old now next : Option (List ℕ)) (lines : List (List ℕ)) (line : List ℕ) → TakesLines old now lines
    → TakesLines now next (line ∷ []) → TakesLines old next (lines ++ line ∷ [])
TakesLines-push None now next lines line taken more = tt
TakesLines-push (Some xs) None next lines line taken more = absurd taken
TakesLines-push (Some xs) (Some ys) None lines line taken more = absurd more
TakesLines-push (Some xs) (Some ys) (Some zs) lines line taken more = taken ∙ ap (λ ls. lines ++ ls) more
    ∙ sym (append_assoc lines (line ∷ []) (lines_of zs))

TakesLines-all : (old now : Option (List ℕ)) (lines : List (List ℕ)) → TakesLines old now lines → IsAtEnd now
    → IfSome old (λ bytes. lines ≡ lines_of bytes)
TakesLines-all None now lines taken end = tt
TakesLines-all (Some xs) None lines taken end = absurd taken
TakesLines-all (Some xs) (Some ys) lines taken end = sym (taken ∙ ap (λ (zs : List ℕ). lines ++ lines_of zs) end ∙ append-nil lines)

pub Appends-nil : (known : Option (List ℕ)) → Appends known known []
Appends-nil None = tt
Appends-nil (Some xs) = sym (append-nil xs)

pub Appends-append : (old now next : Option (List ℕ)) (xs ys : List ℕ) → Appends old now xs → Appends now next ys
    → Appends old next (xs ++ ys)
Appends-append None now next xs ys first second = tt
Appends-append (Some bs) None next xs ys first second = absurd first
Appends-append (Some bs) (Some cs) None xs ys first second = absurd second
Appends-append (Some bs) (Some cs) (Some ds) xs ys first second = second ∙ ap (λ (zs : List ℕ). zs ++ ys) first ∙ append_assoc bs xs ys

pub text_of-append : (xs ys : List (List ℕ)) → text_of (xs ++ ys) ≡ text_of xs ++ text_of ys
text_of-append xs ys = flat_map-append (λ line. line ++ 10 ∷ []) xs ys

pub Appends-cons : (old now next : Option (List ℕ)) (line : List ℕ) (lines : List (List ℕ)) → Appends old now (text_of (line ∷ []))
    → Appends now next (text_of lines) → Appends old next (text_of (line ∷ lines))
Appends-cons old now next line lines first rest = subst (Appends old next) (sym (text_of-append (line ∷ []) lines))
    (Appends-append old now next (text_of (line ∷ [])) (text_of lines) first rest)

-- a line that is written, and one that is not
pub unless_among-new : (lines : List (List ℕ)) (line : List ℕ) → true ≡ not (has_line lines line) → unless_among lines line ≡ line ∷ []
unless_among-new lines line new = by_test (has_line lines line) new
  where
    by_test : (t : Bool) → true ≡ not t → cond t [] (line ∷ []) ≡ line ∷ []
    by_test true new = absurd (true≢false new)
    by_test false new = refl

pub unless_among-old : (lines : List (List ℕ)) (line : List ℕ) → false ≡ not (has_line lines line) → unless_among lines line ≡ []
unless_among-old lines line old = by_test (has_line lines line) old
  where
    by_test : (t : Bool) → false ≡ not t → cond t [] (line ∷ []) ≡ []
    by_test true old = refl
    by_test false old = absurd (true≢false (sym old))

-- lines were taken from the input, these are their distinct lines, and the new ones were written
pub record IsFiltered (size : Option ℕ) (old now : Option (List ℕ)) (recent : List (List ℕ)) (output_old output_now : Option (List ℕ))
    : Type 0 where
  pub lines : List (List ℕ)
  pub taken : TakesLines old now lines
  pub recent_is : recent ≡ distinct_lines size lines
  pub written : Appends output_old output_now (text_of (new_lines (distinct_lines size) [] lines))

drop-nil : (n : ℕ) → drop {A = List ℕ} n [] ≡ []
drop-nil zero = refl
drop-nil (suc n) = refl

distinct_lines-nil : (size : Option ℕ) → distinct_lines size [] ≡ []
distinct_lines-nil None = refl
distinct_lines-nil (Some n) = drop-nil (0 - n)

module _ (size : Option ℕ) (old : Option (List ℕ)) (output : Option (List ℕ)) where
  pub IsFiltered-start : (recent : List (List ℕ)) → recent ≡ [] → IsFiltered size old old recent output output
  IsFiltered-start recent none = record {
    lines = [];
    taken = TakesLines-nil old;
    recent_is = none
        ∙ sym (distinct_lines-nil size);
    written = Appends-nil output;
  }

  -- a line more
  pub IsFiltered-push : (now next : Option (List ℕ)) (recent after : List (List ℕ)) (output_now output_next : Option (List ℕ))
      (line : List ℕ)
      → IsFiltered size old now recent output output_now → TakesLines now next (line ∷ []) → after ≡ trimmed size (to_back recent line)
      → Appends output_now output_next (text_of (unless_among recent line)) → IsFiltered size old next after output output_next
  IsFiltered-push now next recent after output_now output_next line filtered more is written = record {
    lines = filtered.lines ++ line ∷ [];
    taken = TakesLines-push old now next filtered.lines line filtered.taken more;
    recent_is = is ∙ ap (λ ls. trimmed size (to_back ls line)) filtered.recent_is ∙ sym (distinct_lines-push size filtered.lines line);
    written = subst (Appends output output_next)
        (sym (text_of-append (new_lines (distinct_lines size) [] filtered.lines) (unless_among recent line))
        ∙ ap text_of (ap (λ ls. new_lines (distinct_lines size) [] filtered.lines ++ unless_among ls line) filtered.recent_is
        ∙ sym (new_lines-push (distinct_lines size) [] filtered.lines line)))
        (Appends-append output output_now output_next (text_of (new_lines (distinct_lines size) [] filtered.lines))
        (text_of (unless_among recent line)) filtered.written written);
  }

  -- the end of the input
  pub IsFiltered-written : (now : Option (List ℕ)) (recent : List (List ℕ)) (output_now : Option (List ℕ))
      → IsFiltered size old now recent output output_now → IsAtEnd now
      → IfSome old (λ bytes. Appends output output_now (text_of (new_lines (distinct_lines size) [] (lines_of bytes))))
  IsFiltered-written now recent output_now filtered end = whole old (TakesLines-all old now filtered.lines filtered.taken end)
    where
      whole : (known : Option (List ℕ)) → IfSome known (λ bytes. filtered.lines ≡ lines_of bytes)
          → IfSome known (λ bytes. Appends output output_now (text_of (new_lines (distinct_lines size) [] (lines_of bytes))))
      whole None is = tt
      whole (Some xs) is = subst (λ ls. Appends output output_now (text_of (new_lines (distinct_lines size) [] ls))) is filtered.written

-- what is written is what is kept: at the first appearances, and at the last
module _ {E : Type 0} (result : Result (Unit {0}) E) (known old new : Option (List ℕ)) where
  pub written-First : OnOk result (IfSome known (λ bytes. Appends old new (text_of (new_lines (distinct_lines None) [] (lines_of bytes)))))
      → OnOk result (IfSome known (λ bytes. Appends old new (text_of (kept_lines First (lines_of bytes)))))
  written-First written = by_result result written
    where
      by_known : (k : Option (List ℕ)) → IfSome k (λ bytes. Appends old new (text_of (new_lines (distinct_lines None) [] (lines_of bytes))))
          → IfSome k (λ bytes. Appends old new (text_of (kept_lines First (lines_of bytes))))
      by_known None w = tt
      by_known (Some bytes) w = subst (λ ls. Appends old new (text_of ls)) (new_lines-distinct [] (lines_of bytes)) w

      by_result : (r : Result (Unit {0}) E)
          → OnOk r (IfSome known (λ bytes. Appends old new (text_of (new_lines (distinct_lines None) [] (lines_of bytes)))))
          → OnOk r (IfSome known (λ bytes. Appends old new (text_of (kept_lines First (lines_of bytes)))))
      by_result (Ok u) w = by_known known w
      by_result (Err e) w = tt

  pub written-Last : (lines recent : List (List ℕ)) → lines ≡ recent → IfSome known (λ bytes. recent ≡ last_appearances (lines_of bytes))
      → OnOk result (Appends old new (text_of lines))
      → OnOk result (IfSome known (λ bytes. Appends old new (text_of (last_appearances (lines_of bytes)))))
  written-Last lines recent same last written = by_result result written
    where
      by_known : (k : Option (List ℕ)) → IfSome k (λ bytes. recent ≡ last_appearances (lines_of bytes)) → Appends old new (text_of lines)
          → IfSome k (λ bytes. Appends old new (text_of (last_appearances (lines_of bytes))))
      by_known None l w = tt
      by_known (Some bytes) l w = subst (λ ls. Appends old new (text_of ls)) (same ∙ l) w

      by_result : (r : Result (Unit {0}) E) → OnOk r (Appends old new (text_of lines))
          → OnOk r (IfSome known (λ bytes. Appends old new (text_of (last_appearances (lines_of bytes)))))
      by_result (Ok u) w = by_known known last w
      by_result (Err e) w = tt

-- a line that is written or not, lines one after another, and the whole
pub ruleset passes = (unless_among-new, unless_among-old, Appends-nil, Appends-cons, written-First, written-Last)
