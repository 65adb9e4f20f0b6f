use Rattle.std.proofs.Common.{◌≡◌, ◌<◌, ◌-◌, ◌^◌, Some, cond, option_and_then, option_map, length, ap, sym, ◌∙◌, arith}
use Rattle.std.specs.Option.{ok_or}
use Rattle.std.proofs.lemmas.Result.{on_ok_weaker}
use Rattle.json.specs.Json.{array}
use Rattle.ordered_json.specs.Edits.{push_item as pushed, put_item, put_named}
use Rattle.ordered_json.specs.Pointers.{index}
use Rattle.ordered_json.specs.View.{items_view, view}
use Rattle.ordered_json.specs.declared.edit.EditError.TheVariants.{OutOfRange}
use Rattle.ordered_json.proofs.Puts.{push_item-view, put_item-end, put_item-inside, put_item-past, put_item-at}
use Rattle.ordered_json.proofs.edit.put_item.Goals as goal

pub returns-then-eq-clause-child : goal.returns-then-eq-clause-child
returns-then-eq-clause-child c =
    let vs = c.args.items.now.items in let u = view c.args.value in
    let dash : put_named u c.args.name.now (items_view vs) ≡ Some (pushed u (items_view vs)) =
    ap (λ b. cond b (Some (pushed u (items_view vs))) (option_and_then (λ n. put_item u n (items_view vs)) (index c.args.name.now)))
    (sym c.if-eq.ensures) in
    on_ok_weaker c.push_item.result
    (λ is. ap (λ o. ok_or (option_map array o) OutOfRange) (dash ∙ ap Some (sym (ap items_view is ∙ push_item-view vs c.args.value))))
    c.push_item.ensures.items

pub returns-then-at-len-clause-child : goal.returns-then-at-len-clause-child
returns-then-at-len-clause-child c =
    let vs = c.args.items.now.items in let u = view c.args.value in let at = c.in-Some.at in
    let within : length vs < 2 ^ 64 - 1 = omega arith in
    let end : at ≡ length vs = omega (arith, c.if-at-len.true, c.len.ensures) in
    let named : put_named u c.args.name.now (items_view vs) ≡ put_item u at (items_view vs) =
    ap (λ b. cond b (Some (pushed u (items_view vs))) (option_and_then (λ n. put_item u n (items_view vs)) (index c.args.name.now)))
    (sym c.if-eq.ensures) ∙ put_item-at vs within (index c.args.name.now) at c.in-Some.ensures u in
    on_ok_weaker c.push_item-then-at-len.result
    (λ is. ap (λ o. ok_or (option_map array o) OutOfRange)
    (named ∙ ap (λ n. put_item u n (items_view vs)) end ∙ put_item-end vs c.args.value ∙ ap (λ ws. Some (items_view ws)) (sym is)))
    c.push_item-then-at-len.ensures.items

pub returns-then-at-len-2-clause-why : goal.returns-then-at-len-2-clause-why
returns-then-at-len-2-clause-why c = λ _.
    let vs = c.args.items.now.items in let u = view c.args.value in let at = c.in-Some.at in
    let within : length vs < 2 ^ 64 - 1 = omega arith in
    let past : length vs < at = omega (arith, c.if-at-len-2.true, c.len-2.ensures) in
    let named : put_named u c.args.name.now (items_view vs) ≡ put_item u at (items_view vs) =
    ap (λ b. cond b (Some (pushed u (items_view vs))) (option_and_then (λ n. put_item u n (items_view vs)) (index c.args.name.now)))
    (sym c.if-eq.ensures) ∙ put_item-at vs within (index c.args.name.now) at c.in-Some.ensures u in
    ap (λ o. ok_or (option_map array o) OutOfRange) (named ∙ put_item-past vs at u past)

pub returns-clause-child : goal.returns-clause-child
returns-clause-child c =
    let vs = c.args.items.now.items in let u = view c.args.value in let at = c.in-Some.at in
    let within : length vs < 2 ^ 64 - 1 = omega arith in
    let inside : at < length vs = omega arith in
    let named : put_named u c.args.name.now (items_view vs) ≡ put_item u at (items_view vs) =
    ap (λ b. cond b (Some (pushed u (items_view vs))) (option_and_then (λ n. put_item u n (items_view vs)) (index c.args.name.now)))
    (sym c.if-eq.ensures) ∙ put_item-at vs within (index c.args.name.now) at c.in-Some.ensures u in
    ap (λ o. ok_or (option_map array o) OutOfRange) (named ∙ put_item-inside vs at c.args.value inside)
