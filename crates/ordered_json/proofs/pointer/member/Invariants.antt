use Rattle.std.proofs.Common.{◌≡◌, option_and_then}
use Rattle.ordered_json.specs.Pointers.{find_member, unescape}
use Rattle.ordered_json.specs.View.{members_view}
use Rattle.ordered_json.proofs.pointer.member.Given as goal

abbrev pub invariant-loop-name : goal.invariant-loop-name
invariant-loop-name l =
    option_and_then (λ name. find_member name (members_view l.fn.members.pairs)) (unescape l.part)
    ≡ option_and_then (λ name. find_member name (members_view (l.name-iterator))) (unescape l.part)
