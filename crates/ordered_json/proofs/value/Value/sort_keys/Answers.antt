use Rattle.std.proofs.Common.{◌≡◌, map, Ok, Vec, String, string_bytes, sym, ap, ◌∙◌}
use Rattle.std.specs.declared.alloc.Global.{Global}
use Rattle.json.specs.Json.{Json, null}
use Rattle.ordered_json.specs.Edits.{by_names, edit_at, Edited}
use Rattle.ordered_json.specs.Pointers.{change_at}
use Rattle.ordered_json.specs.Sorts.{sorted}
use Rattle.ordered_json.specs.View.{view}
use Rattle.ordered_json.proofs.Changes.{change_at-absent, edit_at-done, not-taken}
use Rattle.ordered_json.proofs.value.Value.sort_keys.Goals as goal

pub returns-in_default-clause-unchanged : goal.returns-in_default-clause-unchanged
returns-in_default-clause-unchanged c =
    c.take_at.ensures.rest ∙ change_at-absent (λ _. null) (map string_bytes c.in_ok-path.path.items) (view c.args.self.now)
    (not-taken _ _ _ c.take_at.ensures.value c.in_default.is)

pub returns-clause-document : goal.returns-clause-document
returns-clause-document c =
    let t = c.in-Some.taken in let path = map string_bytes c.in_ok-path.path.items in let old = view c.args.self.now in
    let sorts : Json → Edited = λ k. Ok (sorted k) in
    let mid = view c.take_at.new.document in let after = view c.sort.new.value in
    let back = c.put_back.ensures ∙ ap (λ (p : Vec (String Global) Global). change_at (λ _. after) (map string_bytes p.items) mid)
    c.in-Some.ensures.path in
    ap (λ o. by_names (edit_at sorts) o old) c.in_ok-path.ensures.names
    ∙ edit_at-done sorts path null old mid (view t.parent) after (view c.put_back.new.document)
    (sym c.in-Some.ensures.value) c.in-Some.ensures.rest back (ap Ok (sym c.sort.ensures))
