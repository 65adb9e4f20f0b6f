use Rattle.std.proofs.Common.{◌≡◌, List, [], ◌∷◌, ◌++◌, map, sym, ap, ◌∙◌, subst, append_assoc, append-nil, arith}
use Rattle.std.proofs.lemmas.List.{map-append, take_all}
use Rattle.std.specs.List.{IsDistinct}
use Rattle.std.specs.Map.{keys_of, values_of}
use Rattle.std.specs.String.{string_eq}
use Rattle.uses.specs.Trees.{list, object}
use Rattle.uses.specs.Documents.{view, items_of, members_view}
use Rattle.uses.proofs.TreeViews.{Entry, Map, view-List, view-Object}
use Rattle.uses.proofs.Copies.{members_view-copied}
use Rattle.uses.proofs.nested.+copy.Goals as goal

pub loop-name-preserved : goal.loop-name-preserved
loop-name-preserved t c =
    let l = c.loop-name in
    let done = l.invariant.0 in
    let e : Entry = (c.in-Some.name.now, c.in-Some.member.now) in
    let left = c.next.new.self in
    let pairs = c.in-Object.members.pairs in
    let all : pairs ≡ done ++ e ∷ left = l.invariant.1 ∙ ap (λ es. done ++ es) c.in-Some.ensures.steps in
    let next : pairs ≡ (done ++ e ∷ []) ++ left = all ∙ sym (append_assoc done (e ∷ []) left) in
    let distinct = subst (λ (es : List Entry). IsDistinct string_eq (keys_of es)) all c.iter-name-items.ensures.valid.distinct in (
      done ++ e ∷ [],
      next,
      members_view-copied done e left l.copies.pairs c.in_ok-clone-in-Object.field-0 c.in_ok-copy-in-Object.field-0 distinct l.invariant.2
          c.in_ok-clone-in-Object.ensures.cases c.in_ok-copy-in-Object.ensures c.in_ok-insert-in-Object.ensures.pushed,
      values_of (done ++ e ∷ []),
      ap values_of next ∙ map-append (λ (p : Entry). p.1) (done ++ e ∷ []) left,
    )

pub returns-after-loop-item : goal.returns-after-loop-item
returns-after-loop-item t c =
    let l = c.loop-item in let items = c.deref-item-items.result.now in
    view-List l.copies
    ∙ ap (λ ts. list (items_of ts))
    (l.invariant ∙ ap (map view) (take_all l.item-index items (omega arith) ∙ c.deref-item-items.ensures.value))
    ∙ sym (ap view c.in-List.is ∙ view-List c.in-List.items)

pub returns-in-None : goal.returns-in-None
returns-in-None t c =
    let l = c.loop-name in let done = l.invariant.0 in
    let all : c.in-Object.members.pairs ≡ done = l.invariant.1 ∙ ap (λ es. done ++ es) c.in-None.ensures.steps.0 ∙ append-nil done in
    view-Object c.set_mode.new.self ∙ ap (λ (m : Map). object (members_view m.pairs)) c.set_mode.ensures.sets ∙ ap object l.invariant.2
    ∙ sym (ap view c.in-Object.is ∙ view-Object c.in-Object.members ∙ ap (λ (es : List Entry). object (members_view es)) all)
