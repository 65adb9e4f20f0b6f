use Rattle.std.proofs.Common.{◌≡◌, [], ◌++◌, length, map, option_map, string_bytes, IsUtf8}
use Rattle.ordered_json.specs.Pointers.{names, names_after}
use Rattle.ordered_json.proofs.pointer.names_of.Given as goal

abbrev pub invariant-parts : goal.invariant-parts
invariant-parts l =
    (names l.fn.pointer ≡ option_map (λ more. map string_bytes l.found.items ++ more) (names_after [] l.rest)) × IsUtf8 l.rest

abbrev pub decreases-parts : goal.decreases-parts
decreases-parts l = length l.rest
