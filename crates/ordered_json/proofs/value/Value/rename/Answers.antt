use Rattle.std.proofs.Common.{◌≡◌, ◌≢◌, [], ◌∷◌, ◌++◌, map, Err, Some, string_bytes, ap, sym, ◌∙◌}
use Rattle.std.proofs.lemmas.Result.{on_ok_weaker, on_err_weaker, IfErr-weaker}
use Rattle.json.specs.Json.{null}
use Rattle.ordered_json.specs.Edits.{rename_at, rename_child}
use Rattle.ordered_json.specs.View.{view}
use Rattle.ordered_json.specs.declared.edit.EditError.{EditError}
use Rattle.ordered_json.specs.declared.edit.EditError.TheVariants.{NoRoom}
use Rattle.ordered_json.proofs.Changes.{edited-done, edited-kept, edited-refused}
use Rattle.ordered_json.proofs.value.Value.rename.Goals as goal

pub returns-clause-document : goal.returns-clause-document
returns-clause-document c =
    let r = c.in_ok-name in let path = map string_bytes r.taken.path.items in let name = c.as_str.result.now in
    let is = r.ensures.names ∙ ap (λ n. Some (path ++ n ∷ [])) (sym c.as_str.ensures.value) in
    on_ok_weaker c.rename_in-done.result (edited-done (rename_child c.args.to.now) c.args.pointer.now path name null (view c.args.self.now)
    (view c.take_parent.new.document) (view r.taken.parent) (view c.rename_in-done.new.parent) (view c.put_back.new.document)
    is r.ensures.parent r.ensures.rest c.put_back.ensures) c.rename_in-done.ensures.child

pub returns-clause-why : goal.returns-clause-why
returns-clause-why c =
    let r = c.in_ok-name in let path = map string_bytes r.taken.path.items in let name = c.as_str.result.now in
    let is = r.ensures.names ∙ ap (λ n. Some (path ++ n ∷ [])) (sym c.as_str.ensures.value) in
    IfErr-weaker c.rename_in-done.result (λ (e : EditError). e ≢ NoRoom → rename_child c.args.to.now name (view r.taken.parent) ≡ Err e)
    (λ (e : EditError). e ≢ NoRoom → rename_at c.args.pointer.now c.args.to.now (view c.args.self.now) ≡ Err e)
    (λ e refused other. edited-refused (rename_child c.args.to.now) c.args.pointer.now path name null (view c.args.self.now)
    (view c.take_parent.new.document) (view r.taken.parent) (view c.rename_in-done.new.parent) (view c.put_back.new.document)
    is r.ensures.parent r.ensures.rest c.put_back.ensures e (refused other)) c.rename_in-done.ensures.why

pub returns-clause-unchanged : goal.returns-clause-unchanged
returns-clause-unchanged c =
    let r = c.in_ok-name in let path = map string_bytes r.taken.path.items in let name = c.as_str.result.now in
    let is = r.ensures.names ∙ ap (λ n. Some (path ++ n ∷ [])) (sym c.as_str.ensures.value) in
    on_err_weaker c.rename_in-done.result (edited-kept (rename_child c.args.to.now) c.args.pointer.now path name null (view c.args.self.now)
    (view c.take_parent.new.document) (view r.taken.parent) (view c.rename_in-done.new.parent) (view c.put_back.new.document)
    is r.ensures.parent r.ensures.rest c.put_back.ensures) c.rename_in-done.ensures.unchanged
