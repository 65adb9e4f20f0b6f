use Rattle.std.proofs.Common.{◌≡◌, ◌≢◌, [], ◌∷◌, ◌++◌, map, Err, Some, string_bytes, ap, sym, ◌∙◌}
use Rattle.std.proofs.lemmas.Result.{on_ok_weaker, on_err_weaker, IfErr-weaker}
use Rattle.json.specs.Json.{null}
use Rattle.ordered_json.specs.Edits.{move_at, move_child}
use Rattle.ordered_json.specs.View.{view}
use Rattle.ordered_json.specs.declared.edit.EditError.{EditError}
use Rattle.ordered_json.specs.declared.edit.EditError.TheVariants.{NoRoom}
use Rattle.ordered_json.proofs.Changes.{edited-done, edited-kept, edited-refused}
use Rattle.ordered_json.proofs.edit_move.move_beside.Goals as goal

pub returns-clause-document : goal.returns-clause-document
returns-clause-document c =
    let r = c.in_ok-name in let path = map string_bytes r.taken.path.items in let name = c.as_str.result.now in
    let is = r.ensures.names ∙ ap (λ n. Some (path ++ n ∷ [])) (sym c.as_str.ensures.value) in
    on_ok_weaker c.move_in-done.result (edited-done (move_child c.args.behind c.args.other.now) c.args.pointer.now path name null
    (view c.args.target.now)
    (view c.take_parent.new.document) (view r.taken.parent) (view c.move_in-done.new.parent) (view c.put_back.new.document)
    is r.ensures.parent r.ensures.rest c.put_back.ensures) c.move_in-done.ensures.child

pub returns-clause-why : goal.returns-clause-why
returns-clause-why c =
    let r = c.in_ok-name in let path = map string_bytes r.taken.path.items in let name = c.as_str.result.now in
    let is = r.ensures.names ∙ ap (λ n. Some (path ++ n ∷ [])) (sym c.as_str.ensures.value) in
    IfErr-weaker c.move_in-done.result (λ (e : EditError). move_child c.args.behind c.args.other.now name (view r.taken.parent) ≡ Err e)
    (λ (e : EditError). e ≢ NoRoom → move_at c.args.behind c.args.pointer.now c.args.other.now (view c.args.target.now) ≡ Err e)
    (λ e refused _. edited-refused (move_child c.args.behind c.args.other.now) c.args.pointer.now path name null (view c.args.target.now)
    (view c.take_parent.new.document) (view r.taken.parent) (view c.move_in-done.new.parent) (view c.put_back.new.document)
    is r.ensures.parent r.ensures.rest c.put_back.ensures e refused) c.move_in-done.ensures.why

pub returns-clause-unchanged : goal.returns-clause-unchanged
returns-clause-unchanged c =
    let r = c.in_ok-name in let path = map string_bytes r.taken.path.items in let name = c.as_str.result.now in
    let is = r.ensures.names ∙ ap (λ n. Some (path ++ n ∷ [])) (sym c.as_str.ensures.value) in
    on_err_weaker c.move_in-done.result (edited-kept (move_child c.args.behind c.args.other.now) c.args.pointer.now path name null
    (view c.args.target.now)
    (view c.take_parent.new.document) (view r.taken.parent) (view c.move_in-done.new.parent) (view c.put_back.new.document)
    is r.ensures.parent r.ensures.rest c.put_back.ensures) c.move_in-done.ensures.unchanged
