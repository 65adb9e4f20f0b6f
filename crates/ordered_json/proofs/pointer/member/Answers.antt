use Rattle.std.proofs.Common.{option_and_then, option_map, sym, ap, ◌∙◌, arith, true≢false}
use Rattle.std.proofs.lemmas.Str.Pattern.{contains_char}
use Rattle.json.specs.Json.{object}
use Rattle.ordered_json.specs.Pointers.{child}
use Rattle.ordered_json.specs.View.{members_view, view}
use Rattle.ordered_json.proofs.Children.{find_member-view, view-copied}
use Rattle.ordered_json.proofs.Parts.{unescape-same}
use Rattle.ordered_json.proofs.pointer.member.Goals as goal

pub returns-then-not-contains : goal.returns-then-not-contains
returns-then-not-contains c =
    let part = c.args.part.now in let pairs = c.args.members.now.pairs in
    let found = contains_char 126 part c.contains.result c.contains.ensures.cases (omega arith) in
    let same = unescape-same part (λ i less at. true≢false (sym (found.1 i less at) ∙ c.if-not-contains.true)) in
    view-copied c.get.result ∙ ap (option_map view) c.get.ensures ∙ sym (find_member-view pairs part)
    ∙ sym (ap (option_and_then (λ name. child name (object (members_view pairs)))) same)
