use Rattle.std.proofs.Common.{◌≡◌, Ok, string_bytes, ap, sym, ◌∙◌}
use Rattle.std.proofs.lemmas.Result.{on_ok_weaker}
use Rattle.json.specs.Json.{object}
use Rattle.ordered_json.specs.Edits.{put_child}
use Rattle.ordered_json.specs.View.{members_view, view}
use Rattle.ordered_json.proofs.Views.{view-Object, view-lent}
use Rattle.ordered_json.proofs.edit.put_in.Goals as goal

pub returns-in-Object-clause-child : goal.returns-in-Object-clause-child
returns-in-Object-clause-child c =
    let parent_is = view-lent (sym c.replace.ensures.value ∙ c.in-Object.is) c.deref_mut.ensures.value in
    on_ok_weaker c.put_member-done.result
    (λ is. ap (put_child (view c.args.value) (string_bytes c.args.name)) parent_is ∙ is ∙ ap Ok (sym (view-Object _)))
    c.put_member-done.ensures.child
