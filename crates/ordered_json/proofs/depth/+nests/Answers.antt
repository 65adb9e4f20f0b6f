use Rattle.std.proofs.Common.{◌≡◌, ◌+◌, ◌-◌, ◌<◌, suc, List, [], ◌∷◌, ◌++◌, nat_le, ◌&&◌, sym, ap, ◌∙◌, append_assoc, arith, rules}
use Rattle.std.proofs.lemmas.Bool.{le-leb}
use Rattle.json.specs.Json.{object}
use Rattle.json.specs.Tree.{depth, items_depth, members_depth}
use Rattle.ordered_json.specs.View.{items_view, members_view, view}
use Rattle.ordered_json.specs.declared.value.Value.{Value}
use Rattle.ordered_json.proofs.Depths.{members_depth-values, nat_le-max, nat_le-minus}
use Rattle.ordered_json.proofs.Views.{view-Object}
use Rattle.ordered_json.proofs.depth.+nests.Goals as goal

pub members_nest_within-returns-then-not-nests_within : goal.members_nest_within-returns-then-not-nests_within
members_nest_within-returns-then-not-nests_within t c =
    let most = c.args.levels in let v = c.in-Some.member.now in let left = c.next.new.self in
    let all_is = c.into_iter-member-iterator.ensures.into_iter_gives ∙ c.values-member-items.ensures.values in
    sym (ap (λ d. nat_le d most) (members_depth-values c.args.members.now.pairs ∙ ap (λ vs. items_depth (items_view vs)) (sym all_is))
    ∙ c.loop-member.invariant.0 ∙ ap (λ vs. nat_le (items_depth (items_view vs)) most) c.in-Some.ensures.steps
    ∙ nat_le-max (depth (view v)) (items_depth (items_view left)) most
    ∙ ap (λ b. b && nat_le (items_depth (items_view left)) most) (sym c.if-not-nests_within.ensures))

pub members_nest_within-loop-member-preserved : goal.members_nest_within-loop-member-preserved
members_nest_within-loop-member-preserved t c =
    let l = c.loop-member in let most = c.args.levels in let v = c.in-Some.member.now in let left = c.next.new.self in
    let done = l.invariant.1 in (
      l.invariant.0 ∙ ap (λ vs. nat_le (items_depth (items_view vs)) most) c.in-Some.ensures.steps
          ∙ nat_le-max (depth (view v)) (items_depth (items_view left)) most
          ∙ ap (λ b. b && nat_le (items_depth (items_view left)) most) (sym c.if-not-nests_within.ensures),
      done ++ v ∷ [],
      l.invariant.2 ∙ ap (λ (vs : List Value). done ++ vs) c.in-Some.ensures.steps ∙ sym (append_assoc done (v ∷ []) left),
    )

pub members_nest_within-returns : goal.members_nest_within-returns
members_nest_within-returns t c =
    let most = c.args.levels in
    let all_is = c.into_iter-member-iterator.ensures.into_iter_gives ∙ c.values-member-items.ensures.values in
    sym (ap (λ d. nat_le d most) (members_depth-values c.args.members.now.pairs ∙ ap (λ vs. items_depth (items_view vs)) (sym all_is))
    ∙ c.loop-member.invariant.0 ∙ ap (λ vs. nat_le (items_depth (items_view vs)) most) c.in-None.ensures.steps.0
    ∙ le-leb 0 most (omega arith))

pub nests_within-returns-then-levels-gt0-2 : goal.nests_within-returns-then-levels-gt0-2
nests_within-returns-then-levels-gt0-2 t c =
    let most = c.args.levels in let ms = members_view c.in-Object.members.value.pairs in
    let same : members_view c.deref.result.now.pairs ≡ ms = search rules in
    let next : 1 + members_depth ms ≡ suc (members_depth ms) = omega arith in
    let some : 0 < most = grind arith in
    c.members_nest_within.ensures ∙ ap (λ ns. nat_le (members_depth ns) (most - 1)) same
    ∙ sym (ap (λ n. nat_le n most) (sym next) ∙ nat_le-minus 1 (members_depth ms) most (omega (arith, some)))
    ∙ sym (ap (λ j. nat_le (depth j) most) (ap view c.in-Object.is ∙ view-Object c.in-Object.members))
