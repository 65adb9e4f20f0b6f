use Rattle.std.proofs.Common.{◌≡◌, ◌∷◌, Bool, IfErr, if◌then◌else◌, map, refl, ap, sym, subst, ◌∙◌}
use Rattle.std.proofs.lemmas.Result.{on_ok_weaker, on_err_weaker}
use Rattle.std.specs.Map.Iter.{deref}
use Rattle.uses.specs.declared.nested.EditError.TheVariants.{Absent, NoRoom}
use Rattle.uses.specs.Documents.{view, members_view}
use Rattle.uses.proofs.TreeViews.{has_place-none, has_place-there, more-names, no_names, put_member-new, set_at-last}
use Rattle.uses.proofs.TreeViews.{set_at-there, view-same}
use Rattle.uses.proofs.nested.Value.+set.Goals as goal

pub returns-in-Some-get_mut-clause-tree : goal.returns-in-Some-get_mut-clause-tree
returns-in-Some-get_mut-clause-tree t c =
    on_ok_weaker c.set-done.result
    (set_at-there c.in-Some-take_object.members.pairs c.in-Some.name.now.now (ap (map deref) c.in-Some.ensures.cases.0)
    c.in-Some-take_object.ensures.taken c.in-Some-get_mut.ensures.value c.set-done.new.self _ c.get_mut.ensures.valid.distinct refl
    (view c.args.value)) c.set-done.ensures.tree

pub returns-in-Some-get_mut-clause-place : goal.returns-in-Some-get_mut-clause-place
returns-in-Some-get_mut-clause-place t c = λ ok.
    has_place-there c.in-Some-take_object.members.pairs c.in-Some.name.now.now (ap (map deref) c.in-Some.ensures.cases.0)
    c.in-Some-take_object.ensures.taken c.in-Some-get_mut.ensures.value ∙ c.set-done.ensures.place ok

pub returns-in-Some-get_mut-clause-why : goal.returns-in-Some-get_mut-clause-why
returns-in-Some-get_mut-clause-why t c =
    subst (λ (b : Bool). IfErr c.set-done.result (λ refused. refused.error ≡ (if b then NoRoom else Absent)))
    (sym (has_place-there c.in-Some-take_object.members.pairs c.in-Some.name.now.now (ap (map deref) c.in-Some.ensures.cases.0)
    c.in-Some-take_object.ensures.taken c.in-Some-get_mut.ensures.value)) c.set-done.ensures.why

pub returns-in-Some-get_mut-clause-unchanged : goal.returns-in-Some-get_mut-clause-unchanged
returns-in-Some-get_mut-clause-unchanged t c =
    on_err_weaker c.set-done.result
    (view-same c.in-Some-take_object.members.pairs c.in-Some.name.now.now (ap (map deref) c.in-Some.ensures.cases.0)
    c.in-Some-take_object.ensures.taken c.in-Some-get_mut.ensures.value c.set-done.new.self _ c.get_mut.ensures.valid.distinct refl)
    c.set-done.ensures.unchanged

pub returns-then-not-is_empty-clause-why : goal.returns-then-not-is_empty-clause-why
returns-then-not-is_empty-clause-why t c =
    let absent = has_place-none c.in-Some-take_object.members.pairs c.in-Some.name.now.now (ap (map deref) c.in-Some.ensures.cases.0)
    c.in-Some-take_object.ensures.taken (more-names c.in-Some.rest.now c.if-not-is_empty.ensures) c.in_default-get_mut.ensures.value in
    rw absent c.refuse-then-not-is_empty.ensures.why

pub returns-clause-tree : goal.returns-clause-tree
returns-clause-tree t c =
    let pairs = c.in-Some-take_object.members.pairs in let name = c.in-Some.name.now.now in
    let split = ap (map deref) c.in-Some.ensures.cases.0 ∙ ap (λ ns. name ∷ ns) (no_names c.in-Some.rest.now c.if-not-is_empty.ensures) in
    on_ok_weaker c.push-done.result
    (λ pushed. set_at-last pairs name split c.in-Some-take_object.ensures.taken c.args.value c.push-done.new.members
    (ap members_view pushed.2 ∙ put_member-new pairs name pushed.0 c.args.value pushed.1 c.in_default-get_mut.ensures.value))
    c.push-done.ensures.pairs
