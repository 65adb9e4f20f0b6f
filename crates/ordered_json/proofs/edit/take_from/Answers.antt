use Rattle.std.proofs.Common.{◌≡◌, Ok, Err, Some, ap, sym, ◌∙◌}
use Rattle.std.proofs.lemmas.Result.{on_ok_weaker, on_err_weaker, IfOk-weaker, IfErr-weaker}
use Rattle.json.specs.Json.{object}
use Rattle.ordered_json.specs.Edits.{without_child}
use Rattle.ordered_json.specs.Pointers.{child}
use Rattle.ordered_json.specs.View.{members_view, view}
use Rattle.ordered_json.specs.declared.edit.EditError.{EditError}
use Rattle.ordered_json.specs.declared.value.Value.{Value}
use Rattle.ordered_json.proofs.Views.{view-Object, view-lent}
use Rattle.ordered_json.proofs.edit.take_from.Goals as goal

pub returns-in-Object-clause-value : goal.returns-in-Object-clause-value
returns-in-Object-clause-value c =
    let parent_is = view-lent (sym c.replace.ensures.value ∙ c.in-Object.is) c.deref_mut.ensures.value in
    IfOk-weaker c.take_member-taken.result
    (λ (v : Value). child c.args.name.now (object (members_view c.deref_mut.result.now.pairs)) ≡ Some (view v))
    (λ (v : Value). child c.args.name.now (view c.args.parent.now) ≡ Some (view v))
    (λ v is. ap (child c.args.name.now) parent_is ∙ is) c.take_member-taken.ensures.value

pub returns-in-Object-clause-rest : goal.returns-in-Object-clause-rest
returns-in-Object-clause-rest c =
    let parent_is = view-lent (sym c.replace.ensures.value ∙ c.in-Object.is) c.deref_mut.ensures.value in
    on_ok_weaker c.take_member-taken.result
    (λ is. ap (without_child c.args.name.now) parent_is ∙ is ∙ ap Ok (sym (view-Object _))) c.take_member-taken.ensures.rest

pub returns-in-Object-clause-why : goal.returns-in-Object-clause-why
returns-in-Object-clause-why c =
    let parent_is = view-lent (sym c.replace.ensures.value ∙ c.in-Object.is) c.deref_mut.ensures.value in
    IfErr-weaker c.take_member-taken.result
    (λ (e : EditError). without_child c.args.name.now (object (members_view c.deref_mut.result.now.pairs)) ≡ Err e)
    (λ (e : EditError). without_child c.args.name.now (view c.args.parent.now) ≡ Err e)
    (λ e is. ap (without_child c.args.name.now) parent_is ∙ is) c.take_member-taken.ensures.why

pub returns-in-Object-clause-unchanged : goal.returns-in-Object-clause-unchanged
returns-in-Object-clause-unchanged c =
    let parent_is = view-lent (sym c.replace.ensures.value ∙ c.in-Object.is) c.deref_mut.ensures.value in
    on_err_weaker c.take_member-taken.result
    (λ is. view-Object _ ∙ ap (λ ps. object (members_view ps)) is ∙ sym parent_is) c.take_member-taken.ensures.unchanged
