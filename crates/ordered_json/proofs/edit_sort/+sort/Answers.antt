use Rattle.std.proofs.Common.{◌≡◌, ◌+◌, ◌*◌, ◌<◌, ◌≤◌, suc, length, Some, option_map, refl, sym, ap, ◌∙◌, arith, rules}
use Rattle.std.proofs.lemmas.Option.{slice_get_read}
use Rattle.std.specs.List.{slice_get}
use Rattle.json.specs.Find.{get_item}
use Rattle.json.specs.Json.{object}
use Rattle.json.specs.Tree.{depth, items_depth, members_depth}
use Rattle.ordered_json.specs.Pointers.{change_item}
use Rattle.ordered_json.specs.Sorts.{in_order, sorted}
use Rattle.ordered_json.specs.View.{items_view, members_view, view}
use Rattle.ordered_json.proofs.Children.{change_item-view, get_item-view}
use Rattle.ordered_json.proofs.EditDepths.{get_item-depth}
use Rattle.ordered_json.proofs.SortedPairs.{members_view-sorted}
use Rattle.ordered_json.proofs.Sorting.{IsTurning-start, IsTurning-first, IsTurning-depth, IsTurning-next, IsTurning-end}
use Rattle.ordered_json.proofs.Sorting.{change_item-sorted_first, get_item-sorted_first, length-sorted_first}
use Rattle.ordered_json.proofs.Sorting.{some-none, sorted_first, sorted_first-all}
use Rattle.ordered_json.proofs.Views.{view-Object, view-lent}
use Rattle.ordered_json.proofs.edit_sort.+sort.Goals as goal

pub sort-returns-in-Object : goal.sort-returns-in-Object
sort-returns-in-Object t c =
    let value_is = view-lent (sym c.replace.ensures.value ∙ c.in-Object.is) c.deref_mut.ensures.value in
    view-Object _ ∙ ap object c.sort_members.ensures ∙ sym (ap sorted value_is)

pub sort_items-sort-requires : goal.sort_items-sort-requires
sort_items-sort-requires t c =
    let l = c.loop-at in let vs = l.items.items in let js = items_view c.args.items.now.items in let v = c.index_mut.result.now in
    let inside : l.at < length vs = omega (arith, length-sorted_first vs c.args.items.now.items l.at l.invariant) in
    let there = slice_get_read vs (length vs) l.at v refl inside c.index_mut.ensures.value in
    let found : get_item l.at js ≡ Some (view v) =
    sym (get_item-sorted_first l.at js) ∙ ap (get_item l.at) (sym l.invariant) ∙ get_item-view vs l.at ∙ ap (option_map view) there in
    let smaller : 2 * depth (view v) < 2 * items_depth js + 1 = omega (arith, get_item-depth l.at js (view v) found) in search rules

pub sort_items-loop-at-preserved : goal.sort_items-loop-at-preserved
sort_items-loop-at-preserved t c =
    let l = c.loop-at in let vs = l.items.items in let js = items_view c.args.items.now.items in let found = c.index_mut.result.now in
    let inside : l.at < length vs = omega (arith, length-sorted_first vs c.args.items.now.items l.at l.invariant) in
    let there = slice_get_read vs (length vs) l.at found refl inside c.index_mut.ensures.value in
    let next : suc l.at ≡ l.at + 1 = omega arith in
    change_item-view sorted vs l.at found c.sort.new.value there c.sort.ensures ∙ ap (change_item sorted l.at) l.invariant
    ∙ change_item-sorted_first l.at js ∙ ap (λ n. sorted_first n js) next

pub sort_items-returns : goal.sort_items-returns
sort_items-returns t c =
    let xs = c.args.items.now.items in
    let all : c.loop-at.at ≡ length xs = omega arith in
    c.loop-at.invariant ∙ ap (λ n. sorted_first n (items_view xs)) all ∙ sorted_first-all xs

pub sort_members-loop-turn-init : goal.sort_members-loop-turn-init
sort_members-loop-turn-init t c = IsTurning-start c.args.members.now.pairs

pub sort_members-unreachable-requires : goal.sort_members-unreachable-requires
sort_members-unreachable-requires t c =
    let all = c.args.members.now.pairs in let l = c.loop-turn in
    let more : l._turn < length all = omega (arith, c.len-turn-end.ensures.len) in
    some-none (IsTurning-first all l.members.pairs l._turn l.invariant more)
    (sym c.front_mut.ensures.value ∙ ap (λ o. option_map (λ m. m.now) o) c.in_default.is)

pub sort_members-sort-requires : goal.sort_members-sort-requires
sort_members-sort-requires t c =
    let all = c.args.members.now.pairs in let l = c.loop-turn in let v = c.in-Some.member.now in
    let more : l._turn < length all = omega (arith, c.len-turn-end.ensures.len) in
    let smaller : 2 * depth (view v) < 2 * members_depth (members_view all) + 1 =
    omega (arith, IsTurning-depth all l.members.pairs l._turn l.invariant more v c.in-Some.ensures.value) in
    search rules

pub sort_members-loop-turn-preserved : goal.sort_members-loop-turn-preserved
sort_members-loop-turn-preserved t c =
    let all = c.args.members.now.pairs in let l = c.loop-turn in
    let more : l._turn < length all = omega (arith, c.len-turn-end.ensures.len) in
    IsTurning-next all l.members.pairs l._turn l.invariant more c.in-Some.member.now c.sort.new.value c.in-Some.ensures.value
    c.sort.ensures c.rotate_left.new.self.pairs c.rotate_left.ensures.pairs

pub sort_members-returns : goal.sort_members-returns
sort_members-returns t c =
    let all = c.args.members.now.pairs in let l = c.loop-turn in
    let done : length all ≤ l._turn = omega (arith, c.len-turn-end.ensures.len) in
    members_view-sorted l.members.pairs c.sort_keys.new.self.pairs c.sort_keys.ensures.finds c.sort_keys.ensures.valid.distinct
    c.sort_keys.ensures.stays_valid.distinct c.sort_keys.ensures.sorted
    ∙ ap in_order (IsTurning-end all l.members.pairs l._turn l.invariant done)
