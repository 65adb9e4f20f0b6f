use Rattle.std.proofs.Common.{◌≡◌, [], ◌∷◌, ◌++◌, List, ◌+◌, min, drop, refl, sym, ap, subst, ◌∙◌, append_assoc, arith}
use Rattle.std.proofs.lemmas.List.{drop_all, drop_more}
use Rattle.uses.specs.Trees.{size}
use Rattle.uses.specs.Documents.{view}
use Rattle.uses.specs.declared.nested.Value.{Value}
use Rattle.uses.proofs.TreeCounts.{IsSizeSoFar, most, size_of, starts, goes_on, leaves-end, depth-end, size-List, size-Object}
use Rattle.uses.proofs.nested.Value.+size.Goals as goal

pub loop-item-init : goal.loop-item-init
loop-item-init t c = starts _

pub loop-item-preserved : goal.loop-item-preserved
loop-item-preserved t c =
    let l = c.loop-item in let items = c.deref-item-items.result.now in let v = c.item-item.result in
    let next = drop_more items l.item-index v c.loop-item-test.true
    ∙ ap (λ (w : Value). w ∷ drop (l.item-index + 1) items) (sym c.item-item.is) in
    goes_on items (drop (l.item-index + 1) items) v l.total c.size.result c.add_size-total.result
    (subst (λ vs. IsSizeSoFar items vs l.total) next l.invariant) c.size.ensures.leaves c.size.ensures.depth
    c.add_size-total.ensures.leaves c.add_size-total.ensures.depth

pub loop-member-init : goal.loop-member-init
loop-member-init t c = (starts _, [], refl)

pub loop-member-preserved : goal.loop-member-preserved
loop-member-preserved t c =
    let l = c.loop-member in let v = c.in-Some.member.now in let left = c.next.new.self in
    let all = c.into_iter-member-iterator.result in let done = l.invariant.1 in
    let steps : l.member-iterator ≡ v ∷ left = c.in-Some.ensures.steps in (
      goes_on all left v l.total c.size-in-loop-member.result c.add_size-total-in-loop-member.result
          (subst (λ vs. IsSizeSoFar all vs l.total) steps l.invariant.0) c.size-in-loop-member.ensures.leaves
          c.size-in-loop-member.ensures.depth c.add_size-total-in-loop-member.ensures.leaves c.add_size-total-in-loop-member.ensures.depth,
      done ++ v ∷ [],
      l.invariant.2 ∙ ap (λ (vs : List Value). done ++ vs) steps ∙ sym (append_assoc done (v ∷ []) left),
    )

pub returns-after-loop-item-clause-leaves : goal.returns-after-loop-item-clause-leaves
returns-after-loop-item-clause-leaves t c =
    let l = c.loop-item in let items = c.deref-item-items.result.now in
    leaves-end items l.total (subst (λ vs. IsSizeSoFar items vs l.total) (drop_all l.item-index items (omega arith)) l.invariant)
    ∙ ap (λ n. min n.0 most) (ap size_of c.deref-item-items.ensures.value
    ∙ sym (ap (λ v. size (view v)) c.in-List.is ∙ size-List c.in-List.items))

pub returns-after-loop-item-clause-depth : goal.returns-after-loop-item-clause-depth
returns-after-loop-item-clause-depth t c =
    let l = c.loop-item in let items = c.deref-item-items.result.now in
    depth-end items l.total (subst (λ vs. IsSizeSoFar items vs l.total) (drop_all l.item-index items (omega arith)) l.invariant)
    ∙ ap (λ n. min n.1 most) (ap size_of c.deref-item-items.ensures.value
    ∙ sym (ap (λ v. size (view v)) c.in-List.is ∙ size-List c.in-List.items))

pub returns-in-None-clause-leaves : goal.returns-in-None-clause-leaves
returns-in-None-clause-leaves t c =
    let l = c.loop-member in let all = c.into_iter-member-iterator.result in
    let all_is = c.into_iter-member-iterator.ensures.into_iter_gives ∙ c.values-member-items.ensures.values in
    leaves-end all l.total (subst (λ vs. IsSizeSoFar all vs l.total) c.in-None.ensures.steps.0 l.invariant.0)
    ∙ ap (λ n. min n.0 most) (ap size_of all_is ∙ sym (ap (λ v. size (view v)) c.in-Object.is ∙ size-Object c.in-Object.members))

pub returns-in-None-clause-depth : goal.returns-in-None-clause-depth
returns-in-None-clause-depth t c =
    let l = c.loop-member in let all = c.into_iter-member-iterator.result in
    let all_is = c.into_iter-member-iterator.ensures.into_iter_gives ∙ c.values-member-items.ensures.values in
    depth-end all l.total (subst (λ vs. IsSizeSoFar all vs l.total) c.in-None.ensures.steps.0 l.invariant.0)
    ∙ ap (λ n. min n.1 most) (ap size_of all_is ∙ sym (ap (λ v. size (view v)) c.in-Object.is ∙ size-Object c.in-Object.members))
