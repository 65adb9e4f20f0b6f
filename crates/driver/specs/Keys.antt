-- The order of keys, which tells only whether two are the same.
use Rattle.std.specs.Prelude.{◌≡◌, ℕ, Bool, true, false, cond, ◌==◌, nat_eq, Option, Some, None, option_map, Decides}
use Rattle.std.specs.Cmp.{IsPartialOrder, nat_eq_equiv}
use Rattle.std.specs.Ordering.{ordering_reverse, is_some_and, is_eq, is_lt}
use Rattle.std.specs.declared.cmp.Ordering.{Ordering}
use Rattle.std.specs.declared.cmp.Ordering.TheVariants.{Less, Equal}
use Rattle.std.proofs.Common.{refl, sym, ap, ◌∙◌, true≢false}

-- equal, or else without an order
abbrev pub equal_or_none : Bool → Option Ordering
equal_or_none same = cond same (Some Equal) None

abbrev pub same_cmp : ℕ → ℕ → Option Ordering
same_cmp x y = equal_or_none (x == y)

reversed : (same : Bool) → equal_or_none same ≡ option_map ordering_reverse (equal_or_none same)
reversed true = refl
reversed false = refl

never_less : (same : Bool) → equal_or_none same ≡ Some Less → true ≡ false
never_less true e = sym (ap (is_some_and is_lt) e)
never_less false e = sym (ap (is_some_and is_lt) e)

equal_at_same : (same : Bool) → Decides same (equal_or_none same ≡ Some Equal)
equal_at_same true = (λ e. refl, λ e. refl)
equal_at_same false = (λ e. absurd (true≢false (sym e)), λ e. ap (is_some_and is_eq) e)

pub same_cmp_partial_order : IsPartialOrder nat_eq same_cmp
same_cmp_partial_order = record {
  antisymm = λ x y. ap equal_or_none (nat_eq_equiv.symm x y) ∙ reversed (y == x);
  trans = λ x y z e f. absurd (true≢false (never_less (x == y) e));
  matches_eq = λ x y. equal_at_same (x == y);
  congr = λ x y z e. ap equal_or_none (nat_eq_equiv.congr x y z e);
}
