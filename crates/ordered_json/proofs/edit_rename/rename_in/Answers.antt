use Rattle.std.proofs.Common.{◌≡◌, ◌≢◌, Ok, Err, ap, sym, ◌∙◌}
use Rattle.std.proofs.lemmas.Result.{on_ok_weaker, on_err_weaker, IfErr-weaker}
use Rattle.json.specs.Json.{object}
use Rattle.ordered_json.specs.Edits.{rename_child}
use Rattle.ordered_json.specs.View.{members_view, view}
use Rattle.ordered_json.specs.declared.edit.EditError.{EditError}
use Rattle.ordered_json.specs.declared.edit.EditError.TheVariants.{NoRoom}
use Rattle.ordered_json.specs.Room.{Map}
use Rattle.ordered_json.proofs.Views.{view-Object, view-lent}
use Rattle.ordered_json.proofs.edit_rename.rename_in.Goals as goal

pub returns-in-Object-clause-child : goal.returns-in-Object-clause-child
returns-in-Object-clause-child c =
    let parent_is = view-lent (sym c.replace.ensures.value ∙ c.in-Object.is) c.deref_mut.ensures.value in
    on_ok_weaker c.rename_member-done.result
    (λ is. ap (rename_child c.args.to.now c.args.name.now) parent_is ∙ is ∙ ap Ok (sym (view-Object _))) c.rename_member-done.ensures.child

pub returns-in-Object-clause-why : goal.returns-in-Object-clause-why
returns-in-Object-clause-why c =
    let parent_is = view-lent (sym c.replace.ensures.value ∙ c.in-Object.is) c.deref_mut.ensures.value in
    IfErr-weaker c.rename_member-done.result
    (λ (e : EditError). e ≢ NoRoom → rename_child c.args.to.now c.args.name.now (object
    (members_view c.deref_mut.result.now.pairs)) ≡ Err e)
    (λ (e : EditError). e ≢ NoRoom → rename_child c.args.to.now c.args.name.now (view c.args.parent.now) ≡ Err e)
    (λ e is other. ap (rename_child c.args.to.now c.args.name.now) parent_is ∙ is other) c.rename_member-done.ensures.why

pub returns-in-Object-clause-unchanged : goal.returns-in-Object-clause-unchanged
returns-in-Object-clause-unchanged c =
    let parent_is = view-lent (sym c.replace.ensures.value ∙ c.in-Object.is) c.deref_mut.ensures.value in
    on_err_weaker c.rename_member-done.result
    (λ is. view-Object _ ∙ ap (λ (m : Map). object (members_view m.pairs)) is ∙ sym parent_is) c.rename_member-done.ensures.unchanged
