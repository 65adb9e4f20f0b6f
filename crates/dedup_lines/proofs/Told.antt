-- What is told, and the help.
use Rattle.std.proofs.Common.{ℕ, List, [], ◌∷◌, ◌++◌, Option, None, Some, Result, Ok, Err, ◌∙◌}
use Rattle.std.specs.{Prelude.OnOk, Io.KnownBytes.Appends, Io.KnownBytes.Keeps}
use Rattle.dedup_lines.{specs.Stop.TellsCause, proofs.Passes.Appends-append}

Appends-keeps : (old now next : Option (List ℕ)) (bytes : List ℕ) → Appends old now bytes → Keeps now next → Appends old next bytes
Appends-keeps None now next bytes written kept = tt
Appends-keeps (Some xs) None next bytes written kept = absurd written
Appends-keeps (Some xs) (Some ys) None bytes written kept = absurd kept
Appends-keeps (Some xs) (Some ys) (Some zs) bytes written kept = kept ∙ written

module _ {A E : Type 0} where
  -- what is written stays so at a flush
  pub OnOk-kept : (result : Result A E) (old now next : Option (List ℕ)) (bytes : List ℕ) → Appends old now bytes → Keeps now next
      → OnOk result (Appends old next bytes)
  OnOk-kept (Ok value) old now next bytes written kept = Appends-keeps old now next bytes written kept
  OnOk-kept (Err error) old now next bytes written kept = tt

  -- three slices, one after the other
  pub OnOk-Appends : (result : Result A E) (start middle end : List ℕ) (old first second new : Option (List ℕ)) → Appends old first start
      → Appends first second middle → OnOk result (Appends second new end) → OnOk result (Appends old new (start ++ middle ++ end))
  OnOk-Appends (Ok value) start middle end old first second new starts goes_on ends =
      Appends-append old second new (start ++ middle) end (Appends-append old first second start middle starts goes_on) ends
  OnOk-Appends (Err error) start middle end old first second new starts goes_on ends = tt

  -- a line with a cause
  pub OnOk-TellsCause : (result : Result A E) (start cause : List ℕ) (old new : Option (List ℕ))
      → OnOk result (Appends old new (start ++ cause ++ 10 ∷ [])) → OnOk result (TellsCause start old new)
  OnOk-TellsCause (Ok value) start cause old new written = (cause, written)
  OnOk-TellsCause (Err error) start cause old new written = tt
