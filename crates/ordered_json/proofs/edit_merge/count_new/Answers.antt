use Rattle.std.proofs.Common.{List, ap, ◌∙◌, arith}
use Rattle.ordered_json.specs.Room.{new_count, new_one}
use Rattle.ordered_json.specs.View.{members_view, view}
use Rattle.ordered_json.proofs.Merges.{new_count-most}
use Rattle.ordered_json.proofs.Views.{Entry}
use Rattle.ordered_json.proofs.edit_merge.count_new.Goals as goal

pub overflow_add-count : goal.overflow_add-count
overflow_add-count c =
    let ms = members_view c.args.members.now.pairs in
    let next = ap (λ (es : List Entry). new_count (members_view es) ms) c.in-Some.ensures.steps in
    let one = c.count_one-count.ensures ∙ ap (λ n. new_one n (view c.in-Some.change.now) ms) c.as_str.ensures.value in
    let most = new_count-most c.args.changes.now.pairs ms in
    let valid = c.iter-name-items.ensures.valid in
    omega (arith, c.loop-name.invariant, next, one, most, valid.within, valid.limit)

pub loop-name-preserved : goal.loop-name-preserved
loop-name-preserved c =
    let ms = members_view c.args.members.now.pairs in
    let next = ap (λ (es : List Entry). new_count (members_view es) ms) c.in-Some.ensures.steps in
    let one = c.count_one-count.ensures ∙ ap (λ n. new_one n (view c.in-Some.change.now) ms) c.as_str.ensures.value in
    omega (arith, c.loop-name.invariant, next, one)
