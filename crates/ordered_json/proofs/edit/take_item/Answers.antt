use Rattle.std.proofs.Common.{◌<◌, ◌≤◌, ◌-◌, ◌^◌, Some, length, option_map, refl, ap, sym, ◌∙◌, arith}
use Rattle.std.proofs.lemmas.Option.{slice_get_read}
use Rattle.std.specs.Option.{ok_or}
use Rattle.json.specs.Json.{array}
use Rattle.ordered_json.specs.Pointers.{index}
use Rattle.ordered_json.specs.View.{items_view, view}
use Rattle.ordered_json.specs.declared.edit.EditError.TheVariants.{OutOfRange}
use Rattle.ordered_json.proofs.Children.{item-found}
use Rattle.ordered_json.proofs.Puts.{without_item-at, without_item-inside, without_item-past}
use Rattle.ordered_json.proofs.edit.take_item.Goals as goal

pub returns-then-at-len-clause-value : goal.returns-then-at-len-clause-value
returns-then-at-len-clause-value c =
    let vs = c.args.items.now.items in let at = c.in-Some.at in
    let within : length vs < 2 ^ 64 - 1 = omega arith in
    let inside : at < length vs = omega arith in
    item-found vs within (index c.args.name.now) at c.in-Some.ensures
    ∙ ap (option_map view) (slice_get_read vs (length vs) at c.remove.result refl inside c.remove.ensures.value)

pub returns-then-at-len-clause-rest : goal.returns-then-at-len-clause-rest
returns-then-at-len-clause-rest c =
    let vs = c.args.items.now.items in let at = c.in-Some.at in
    let within : length vs < 2 ^ 64 - 1 = omega arith in
    let inside : at < length vs = omega arith in
    ap (λ o. ok_or (option_map array o) OutOfRange)
    (without_item-at vs within (index c.args.name.now) at c.in-Some.ensures ∙ without_item-inside vs at inside
    ∙ ap (λ ws. Some (items_view ws)) (sym c.remove.ensures.items))

pub returns-else-at-len-clause-why : goal.returns-else-at-len-clause-why
returns-else-at-len-clause-why c =
    let vs = c.args.items.now.items in let at = c.in-Some.at in
    let within : length vs < 2 ^ 64 - 1 = omega arith in
    let past : length vs ≤ at = omega arith in
    ap (λ o. ok_or (option_map array o) OutOfRange)
    (without_item-at vs within (index c.args.name.now) at c.in-Some.ensures ∙ without_item-past vs at past)
