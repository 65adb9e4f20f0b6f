use Rattle.std.proofs.Common.{◌<◌, ◌≤◌, ◌-◌, ◌^◌, length, option_and_then, option_map, refl, sym, ap, ◌∙◌, arith, true≢false}
use Rattle.std.proofs.lemmas.Option.{slice_get_read, slice_get_past}
use Rattle.std.proofs.lemmas.Str.Pattern.{contains_char}
use Rattle.json.specs.Find.{get_item}
use Rattle.json.specs.Json.{array}
use Rattle.ordered_json.specs.Pointers.{child, index}
use Rattle.ordered_json.specs.View.{items_view, view}
use Rattle.ordered_json.proofs.Children.{capped-none, item-found}
use Rattle.ordered_json.proofs.Parts.{child-escaped, unescape-same}
use Rattle.ordered_json.proofs.pointer.item_mut.Goals as goal

pub returns-then-contains : goal.returns-then-contains
returns-then-contains c =
    let part = c.args.part.now in
    let tilde = (contains_char 126 part c.contains.result c.contains.ensures.cases (omega arith)).0 c.if-contains.true in
    sym (child-escaped part (items_view c.args.items.now.items) tilde.0 tilde.1 tilde.2)

pub returns-in_default : goal.returns-in_default
returns-in_default c =
    let part = c.args.part.now in let vs = c.args.items.now.items in
    let found = contains_char 126 part c.contains.result c.contains.ensures.cases (omega arith) in
    let same = unescape-same part (λ i less at. true≢false (sym (found.1 i less at) ∙ c.if-contains.false)) in
    sym (ap (option_and_then (λ name. child name (array (items_view vs)))) same
    ∙ ap (option_and_then (λ n. get_item n (items_view vs))) (capped-none (index part) c.in_default.ensures))

pub returns-then-at-len : goal.returns-then-at-len
returns-then-at-len c =
    let part = c.args.part.now in let vs = c.args.items.now.items in let at = c.in-Some.at in
    let found = contains_char 126 part c.contains.result c.contains.ensures.cases (omega arith) in
    let same = unescape-same part (λ i less at. true≢false (sym (found.1 i less at) ∙ c.if-contains.false)) in
    let within : length vs < 2 ^ 64 - 1 = omega arith in
    let inside : at < length vs = omega arith in
    sym (ap (option_and_then (λ name. child name (array (items_view vs)))) same
    ∙ item-found vs within (index part) at c.in-Some.ensures
    ∙ ap (option_map view) (slice_get_read vs (length vs) at c.index_mut.result.now refl inside c.index_mut.ensures.value))

pub returns-else-at-len : goal.returns-else-at-len
returns-else-at-len c =
    let part = c.args.part.now in let vs = c.args.items.now.items in let at = c.in-Some.at in
    let found = contains_char 126 part c.contains.result c.contains.ensures.cases (omega arith) in
    let same = unescape-same part (λ i less at. true≢false (sym (found.1 i less at) ∙ c.if-contains.false)) in
    let within : length vs < 2 ^ 64 - 1 = omega arith in
    let past : length vs ≤ at = omega arith in
    sym (ap (option_and_then (λ name. child name (array (items_view vs)))) same
    ∙ item-found vs within (index part) at c.in-Some.ensures ∙ ap (option_map view) (slice_get_past vs at past))
