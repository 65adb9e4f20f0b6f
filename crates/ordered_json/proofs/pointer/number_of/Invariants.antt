use Rattle.std.proofs.Common.{◌≡◌, ◌≤◌, ◌-◌, ◌^◌, drop, option_map}
use Rattle.ordered_json.specs.Pointers.{number_after}
use Rattle.ordered_json.proofs.Children.{capped}
use Rattle.ordered_json.proofs.pointer.number_of.Given as goal

abbrev pub invariant-loop-byte : goal.invariant-loop-byte
invariant-loop-byte l =
    (option_map capped (number_after l.number (drop l.byte-index l.bytes)) ≡ option_map capped (number_after 0 l.bytes))
    × (l.number ≤ 2 ^ 64 - 1)
