use Rattle.std.proofs.Common.{◌≡◌, ◌++◌, length, option_map, string_bytes, IsUtf8}
use Rattle.ordered_json.specs.Pointers.{unescape}
use Rattle.ordered_json.proofs.pointer.unescaped.Given as goal

abbrev pub invariant-parts : goal.invariant-parts
invariant-parts l = (unescape l.fn.part ≡ option_map (λ more. string_bytes l.name ++ more) (unescape l.rest)) × IsUtf8 l.rest

abbrev pub decreases-parts : goal.decreases-parts
decreases-parts l = length l.rest
