use Rattle.std.proofs.Common.{◌≡◌, ◌≢◌, [], ◌∷◌, ◌++◌, map, Err, Some, option_and_then, string_bytes, ap, sym, ◌∙◌}
use Rattle.std.proofs.lemmas.Result.{on_ok_weaker, on_err_weaker, IfErr-weaker, IfOk-weaker}
use Rattle.json.specs.Json.{null}
use Rattle.ordered_json.specs.Edits.{remove_at, without_child}
use Rattle.ordered_json.specs.Pointers.{child, get_at, pointed}
use Rattle.ordered_json.specs.View.{view}
use Rattle.ordered_json.specs.declared.edit.EditError.{EditError}
use Rattle.ordered_json.specs.declared.edit.EditError.TheVariants.{NoRoom}
use Rattle.ordered_json.specs.declared.value.Value.{Value}
use Rattle.ordered_json.proofs.Changes.{edited-done, edited-kept, edited-refused, get_at-append}
use Rattle.ordered_json.proofs.value.Value.remove.Goals as goal

pub returns-clause-value : goal.returns-clause-value
returns-clause-value c =
    let r = c.in_ok-name in let path = map string_bytes r.taken.path.items in let name = c.as_str.result.now in
    let is = r.ensures.names ∙ ap (λ n. Some (path ++ n ∷ [])) (sym c.as_str.ensures.value) in
    let old = view c.args.self.now in
    let found : pointed c.args.pointer.now old ≡ child name (view r.taken.parent) =
    ap (option_and_then (λ p. get_at p old)) is ∙ get_at-append path name old ∙ ap (option_and_then (child name)) r.ensures.parent in
    IfOk-weaker c.take_from-removed.result (λ (v : Value). child name (view r.taken.parent) ≡ Some (view v))
    (λ (v : Value). pointed c.args.pointer.now old ≡ Some (view v)) (λ v here. found ∙ here) c.take_from-removed.ensures.value

pub returns-clause-document : goal.returns-clause-document
returns-clause-document c =
    let r = c.in_ok-name in let path = map string_bytes r.taken.path.items in let name = c.as_str.result.now in
    let is = r.ensures.names ∙ ap (λ n. Some (path ++ n ∷ [])) (sym c.as_str.ensures.value) in
    on_ok_weaker c.take_from-removed.result (edited-done without_child c.args.pointer.now path name null (view c.args.self.now)
    (view c.take_parent.new.document) (view r.taken.parent) (view c.take_from-removed.new.parent) (view c.put_back.new.document)
    is r.ensures.parent r.ensures.rest c.put_back.ensures) c.take_from-removed.ensures.rest

pub returns-clause-why : goal.returns-clause-why
returns-clause-why c =
    let r = c.in_ok-name in let path = map string_bytes r.taken.path.items in let name = c.as_str.result.now in
    let is = r.ensures.names ∙ ap (λ n. Some (path ++ n ∷ [])) (sym c.as_str.ensures.value) in
    IfErr-weaker c.take_from-removed.result (λ (e : EditError). without_child name (view r.taken.parent) ≡ Err e)
    (λ (e : EditError). e ≢ NoRoom → remove_at c.args.pointer.now (view c.args.self.now) ≡ Err e)
    (λ e refused _. edited-refused without_child c.args.pointer.now path name null (view c.args.self.now)
    (view c.take_parent.new.document) (view r.taken.parent) (view c.take_from-removed.new.parent) (view c.put_back.new.document)
    is r.ensures.parent r.ensures.rest c.put_back.ensures e refused) c.take_from-removed.ensures.why

pub returns-clause-unchanged : goal.returns-clause-unchanged
returns-clause-unchanged c =
    let r = c.in_ok-name in let path = map string_bytes r.taken.path.items in let name = c.as_str.result.now in
    let is = r.ensures.names ∙ ap (λ n. Some (path ++ n ∷ [])) (sym c.as_str.ensures.value) in
    on_err_weaker c.take_from-removed.result (edited-kept without_child c.args.pointer.now path name null (view c.args.self.now)
    (view c.take_parent.new.document) (view r.taken.parent) (view c.take_from-removed.new.parent) (view c.put_back.new.document)
    is r.ensures.parent r.ensures.rest c.put_back.ensures) c.take_from-removed.ensures.unchanged
