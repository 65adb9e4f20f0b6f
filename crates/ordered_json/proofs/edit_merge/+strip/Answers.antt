use Rattle.std.proofs.Common.{◌≡◌, ◌<◌, ◌+◌, ◌*◌, ◌∷◌, ◌++◌, [], List, Some, length, option_map, sym, ap, ◌∙◌, subst, arith, rules}
use Rattle.json.specs.Json.{null, object, no_members}
use Rattle.json.specs.Tree.{depth}
use Rattle.linked_hash_map.specs.Pairs.{first}
use Rattle.ordered_json.specs.Merge.{merged, merge_each}
use Rattle.ordered_json.specs.View.{members_view, view}
use Rattle.ordered_json.specs.Room.{Map}
use Rattle.ordered_json.proofs.Merges.{IsStripping, IsStripping-start, IsStripping-end, IsStripping-none, IsStripping-less}
use Rattle.ordered_json.proofs.Merges.{IsStripping-dropped, IsStripping-moved}
use Rattle.ordered_json.proofs.Views.{Entry, view-Object}
use Rattle.ordered_json.proofs.edit_merge.+strip.Goals as goal
use Rattle.ordered_json.proofs.edit_merge.+strip.Goals.{strip_each-then-not-is_null, strip_each-else-not-is_null}

pub strip-returns-in-Object : goal.strip-returns-in-Object
strip-returns-in-Object t c =
    let value_is = ap view (sym c.replace.ensures.value ∙ c.in-Object.is) ∙ view-Object c.in-Object.members in
    let each : members_view c.strip_each.new.members.pairs ≡ merge_each (members_view c.in-Object.members.value.pairs) no_members =
    search rules in
    view-Object _ ∙ ap object each ∙ ap (λ j. merged j null) (sym value_is)

pub strip_each-loop-turn-init : goal.strip_each-loop-turn-init
strip_each-loop-turn-init t c = IsStripping-start c.args.members.now.pairs

pub strip_each-returns-in_default : goal.strip_each-returns-in_default
strip_each-returns-in_default t c =
    ap (λ (m : Map). members_view m.pairs) c.in_default.ensures.unchanged
    ∙ IsStripping-none c.args.members.now.pairs c.loop-turn.members.pairs c.loop-turn._turn c.loop-turn.invariant
    (sym c.in_default.ensures.pair)

pub strip_each-strip-requires : goal.strip_each-strip-requires
strip_each-strip-requires t c =
    let all = c.args.members.now.pairs in let l = c.loop-turn in
    let more : l._turn < length all = omega (arith, c.loop-turn-test.true, c.len-turn-end.ensures.len) in
    let deep = IsStripping-less all l.members.pairs l._turn l.invariant more c.in-Some.member (sym c.in-Some.ensures.pair) in
    let less : 2 * depth (view c.in-Some.member.1) < t = omega (arith, deep, c.decreases) in
    (less, tt)

pub strip_each-loop-turn-preserved : goal.strip_each-loop-turn-preserved
strip_each-loop-turn-preserved t c =
    let all = c.args.members.now.pairs in let l = c.loop-turn in let e = c.in-Some.member in
    let popped = c.pop_front.new.self.pairs in
    let more : l._turn < length all = omega (arith, c.loop-turn-test.true, c.len-turn-end.ensures.len) in
    let there : first l.members.pairs ≡ Some e = sym c.in-Some.ensures.pair in
    let gone = c.in-Some.ensures.gone in
    let none = ap (option_map (λ (p : Entry). p.1)) gone in
    elim c.if-not-is_null.branch [
      | strip_each-then-not-is_null w ↦
          let v = w.strip.new.value in
          let moved : c.if-not-is_null.members.pairs ≡ popped ++ (e.0, v) ∷ [] =
          ap (λ (m : Map). m.pairs) w.members-is ∙ w.insert_within_capacity.ensures.pushed none in
          subst (λ (es : List Entry). IsStripping all es (l._turn + 1)) (sym moved)
          (IsStripping-moved all l.members.pairs l._turn l.invariant more e there popped c.pop_front.ensures.pairs gone v
          (sym w.if-not-is_null.ensures) w.strip.ensures)
      | strip_each-else-not-is_null w ↦
          subst (λ (es : List Entry). IsStripping all es (l._turn + 1)) (sym (ap (λ (m : Map). m.pairs) w.members-is))
          (IsStripping-dropped all l.members.pairs l._turn l.invariant more e there popped c.pop_front.ensures.pairs gone
          (sym w.if-not-is_null.ensures))
    ]

pub strip_each-returns : goal.strip_each-returns
strip_each-returns t c =
    IsStripping-end c.args.members.now.pairs c.loop-turn.members.pairs c.loop-turn._turn c.loop-turn.invariant
    (omega (arith, c.loop-turn-test.false, c.len-turn-end.ensures.len))
