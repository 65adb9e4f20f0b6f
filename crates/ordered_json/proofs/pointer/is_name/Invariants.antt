use Rattle.std.proofs.Common.{◌≡◌, ◌-◌, ◌≤◌, ◌↔◌, length, drop, Some}
use Rattle.ordered_json.specs.Pointers.{unescape}
use Rattle.ordered_json.proofs.pointer.is_name.Given as goal

abbrev pub invariant-loop-at : goal.invariant-loop-at
invariant-loop-at l =
    ((unescape l.part ≡ Some l.name) ↔ (unescape (drop l.at l.part) ≡ Some (drop l.matched l.name)))
    × (l.at ≤ length l.part) × (l.matched ≤ length l.name)

abbrev pub decreases-loop-at : goal.decreases-loop-at
decreases-loop-at l = length l.part - l.at
