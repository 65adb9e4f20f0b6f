use Rattle.std.proofs.Common.{◌≡◌, ◌≤◌, ℕ, false, length, nat_eq, take}
use Rattle.std.specs.Prelude.{slice_get, IfSome}
use Rattle.upgrade.proofs.undo.undo_to.Given as goal

abbrev pub invariant-loop-step : goal.invariant-loop-step
invariant-loop-step l = (l.steps.pairs ≡ take (length l.steps.pairs) l.fn.steps.pairs)
    × ((at : ℕ) → length l.steps.pairs ≤ at
    → IfSome (slice_get l.fn.steps.pairs at) (λ step. nat_eq l.marker step.0 ≡ false))

abbrev pub decreases-loop-step : goal.decreases-loop-step
decreases-loop-step l = length l.steps.pairs
