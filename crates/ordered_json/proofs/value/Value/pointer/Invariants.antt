use Rattle.std.proofs.Common.{◌≡◌, [], length, option_and_then, IsUtf8}
use Rattle.ordered_json.specs.Pointers.{get_at, names_after, pointed}
use Rattle.ordered_json.specs.View.{view}
use Rattle.ordered_json.proofs.value.Value.pointer.Given as goal

abbrev pub invariant-parts : goal.invariant-parts
invariant-parts l =
    (pointed l.fn.pointer (view l.fn.self) ≡ option_and_then (λ path. get_at path (view l.target)) (names_after [] l.rest)) × IsUtf8 l.rest

abbrev pub decreases-parts : goal.decreases-parts
decreases-parts l = length l.rest
