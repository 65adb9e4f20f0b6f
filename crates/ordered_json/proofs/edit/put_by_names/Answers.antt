use Rattle.std.proofs.Common.{◌≡◌, ◌≢◌, [], ◌∷◌, ◌++◌, map, Err, Some, Vec, String, string_bytes, sym, ap, ◌∙◌}
use Rattle.std.proofs.lemmas.List.{map-append}
use Rattle.std.proofs.lemmas.Result.{on_ok_weaker, on_err_weaker, IfErr-weaker}
use Rattle.std.specs.declared.alloc.Global.{Global}
use Rattle.json.specs.Json.{null}
use Rattle.ordered_json.specs.Edits.{put_at, put_child}
use Rattle.ordered_json.specs.Pointers.{change_at}
use Rattle.ordered_json.specs.View.{view}
use Rattle.ordered_json.specs.declared.edit.EditError.TheVariants.{NoRoom}
use Rattle.ordered_json.specs.declared.edit.NotSet.{NotSet}
use Rattle.ordered_json.proofs.Changes.{change_at-absent, edit_at-done, edit_at-kept, edit_at-refused, not-taken, put_at-append}
use Rattle.ordered_json.proofs.edit.put_by_names.Goals as goal

pub returns-in_default-take_at-clause-unchanged : goal.returns-in_default-take_at-clause-unchanged
returns-in_default-take_at-clause-unchanged c =
    c.take_at.ensures.rest ∙ change_at-absent (λ _. null) (map string_bytes c.pop.new.self.items) (view c.args.document.now)
    (not-taken _ _ _ c.take_at.ensures.value c.in_default-take_at.is)

pub returns-clause-document : goal.returns-clause-document
returns-clause-document c =
    let t = c.in-Some-take_at.taken in let path = map string_bytes c.pop.new.self.items in let name = string_bytes c.in-Some.name in
    let u = view c.args.value in let old = view c.args.document.now in
    let mid = view c.take_at.new.document in let after = view c.put_in-done.new.parent in
    let names_is = ap (map string_bytes) c.in-Some.ensures.items ∙ map-append string_bytes c.pop.new.self.items (c.in-Some.name ∷ []) in
    let back = c.put_back.ensures ∙ ap (λ (p : Vec (String Global) Global). change_at (λ _. after) (map string_bytes p.items) mid)
    c.in-Some-take_at.ensures.path in
    on_ok_weaker c.put_in-done.result (λ is. ap (λ ns. put_at u ns old) names_is ∙ put_at-append u path name old
    ∙ edit_at-done (put_child u name) path null old mid (view t.parent) after (view c.put_back.new.document)
    (sym c.in-Some-take_at.ensures.value) c.in-Some-take_at.ensures.rest back is) c.put_in-done.ensures.child

pub returns-clause-why : goal.returns-clause-why
returns-clause-why c =
    let t = c.in-Some-take_at.taken in let path = map string_bytes c.pop.new.self.items in let name = string_bytes c.in-Some.name in
    let u = view c.args.value in let old = view c.args.document.now in
    let mid = view c.take_at.new.document in let after = view c.put_in-done.new.parent in
    let names_is = ap (map string_bytes) c.in-Some.ensures.items ∙ map-append string_bytes c.pop.new.self.items (c.in-Some.name ∷ []) in
    let back = c.put_back.ensures ∙ ap (λ (p : Vec (String Global) Global). change_at (λ _. after) (map string_bytes p.items) mid)
    c.in-Some-take_at.ensures.path in
    IfErr-weaker c.put_in-done.result (λ (e : NotSet). e.error ≢ NoRoom → put_child u name (view t.parent) ≡ Err e.error)
    (λ (e : NotSet). e.error ≢ NoRoom → put_at u (map string_bytes c.args.path.items) old ≡ Err e.error)
    (λ e is other. ap (λ ns. put_at u ns old) names_is ∙ put_at-append u path name old
    ∙ edit_at-refused (put_child u name) path null old mid (view t.parent) after (view c.put_back.new.document)
    (sym c.in-Some-take_at.ensures.value) c.in-Some-take_at.ensures.rest back e.error (is other)) c.put_in-done.ensures.why

pub returns-clause-unchanged : goal.returns-clause-unchanged
returns-clause-unchanged c =
    let t = c.in-Some-take_at.taken in let path = map string_bytes c.pop.new.self.items in let name = string_bytes c.in-Some.name in
    let u = view c.args.value in let old = view c.args.document.now in
    let mid = view c.take_at.new.document in let after = view c.put_in-done.new.parent in
    let back = c.put_back.ensures ∙ ap (λ (p : Vec (String Global) Global). change_at (λ _. after) (map string_bytes p.items) mid)
    c.in-Some-take_at.ensures.path in
    on_err_weaker c.put_in-done.result
    (edit_at-kept (put_child u name) path null old mid (view t.parent) after (view c.put_back.new.document)
    (sym c.in-Some-take_at.ensures.value) c.in-Some-take_at.ensures.rest back) c.put_in-done.ensures.unchanged
