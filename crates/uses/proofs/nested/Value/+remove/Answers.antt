use Rattle.std.proofs.Common.{◌∷◌, map, option_map, refl, sym, ap, ◌∙◌}
use Rattle.std.specs.Map.Iter.{deref}
use Rattle.uses.specs.Documents.{view, members_view}
use Rattle.uses.specs.Trees.{without_member}
use Rattle.uses.proofs.TreeViews.{edit_at-found, edit_at-last, edit_at-there, member_at-found, member_at-last, more-names, no_names}
use Rattle.uses.proofs.TreeViews.{on_none_weaker, view-Object, view-same, without_member-view}
use Rattle.uses.proofs.nested.Value.+remove.Goals as goal

pub returns-then-is_empty-clause-value : goal.returns-then-is_empty-clause-value
returns-then-is_empty-clause-value t c =
    let name = c.in_ok-name.name.now.now in
    let split = ap (map deref) c.in_ok-name.ensures.cases.0 ∙ ap (λ ns. name ∷ ns) (no_names c.in_ok-name.rest.now c.if-is_empty.ensures) in
    ap (option_map view) c.remove-removed.ensures.value
    ∙ sym (member_at-last c.in_ok-members.members.pairs name split c.in_ok-members.ensures.taken)

pub returns-then-is_empty-clause-tree : goal.returns-then-is_empty-clause-tree
returns-then-is_empty-clause-tree t c =
    let name = c.in_ok-name.name.now.now in let pairs = c.in_ok-members.members.pairs in
    let split = ap (map deref) c.in_ok-name.ensures.cases.0 ∙ ap (λ ns. name ∷ ns) (no_names c.in_ok-name.rest.now c.if-is_empty.ensures) in
    edit_at-last pairs name split c.in_ok-members.ensures.taken without_member c.remove-removed.new.self
    (ap members_view c.remove-removed.ensures.pairs ∙ without_member-view pairs name)

pub returns-in_default-clause-value : goal.returns-in_default-clause-value
returns-in_default-clause-value t c =
    sym (member_at-found c.in_ok-members.members.pairs c.in_ok-name.name.now.now (ap (map deref) c.in_ok-name.ensures.cases.0)
    c.in_ok-members.ensures.taken c.in_default.ensures.value (more-names c.in_ok-name.rest.now c.if-is_empty.ensures))

pub returns-in_default-clause-tree : goal.returns-in_default-clause-tree
returns-in_default-clause-tree t c =
    view-Object c.in_ok-members.members
    ∙ sym (edit_at-found c.in_ok-members.members.pairs c.in_ok-name.name.now.now (ap (map deref) c.in_ok-name.ensures.cases.0)
    c.in_ok-members.ensures.taken c.in_default.ensures.value (more-names c.in_ok-name.rest.now c.if-is_empty.ensures) without_member)

pub returns-clause-value : goal.returns-clause-value
returns-clause-value t c =
    c.remove-removed-2.ensures.value
    ∙ sym (member_at-found c.in_ok-members.members.pairs c.in_ok-name.name.now.now (ap (map deref) c.in_ok-name.ensures.cases.0)
    c.in_ok-members.ensures.taken c.in-Some.ensures.value (more-names c.in_ok-name.rest.now c.if-is_empty.ensures))

pub returns-clause-tree : goal.returns-clause-tree
returns-clause-tree t c =
    edit_at-there c.in_ok-members.members.pairs c.in_ok-name.name.now.now (ap (map deref) c.in_ok-name.ensures.cases.0)
    c.in_ok-members.ensures.taken c.in-Some.ensures.value c.remove-removed-2.new.self _ c.get_mut.ensures.valid.distinct refl
    (more-names c.in_ok-name.rest.now c.if-is_empty.ensures) without_member c.remove-removed-2.ensures.tree

pub returns-clause-unchanged : goal.returns-clause-unchanged
returns-clause-unchanged t c =
    on_none_weaker c.remove-removed-2.result
    (view-same c.in_ok-members.members.pairs c.in_ok-name.name.now.now (ap (map deref) c.in_ok-name.ensures.cases.0)
    c.in_ok-members.ensures.taken c.in-Some.ensures.value c.remove-removed-2.new.self _ c.get_mut.ensures.valid.distinct refl)
    c.remove-removed-2.ensures.unchanged
