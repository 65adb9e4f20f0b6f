use Rattle.std.proofs.Common.{◌≡◌, List, [], ◌∷◌, ◌++◌, string_bytes, sym, ap, ◌∙◌, subst, rules, append_assoc}
use Rattle.std.proofs.lemmas.List.{map-append}
use Rattle.std.specs.List.{IsDistinct}
use Rattle.std.specs.Map.{keys_of, values_of}
use Rattle.std.specs.String.{string_eq}
use Rattle.json.specs.Json.{object}
use Rattle.ordered_json.specs.Read.{put}
use Rattle.ordered_json.specs.View.{view, members_view}
use Rattle.ordered_json.proofs.Views.{Entry, view-Object, members_view-put, members_view-next}
use Rattle.ordered_json.proofs.clone.+copy.Goals as goal

pub copy-returns-in_ok-of_members-in-Object : goal.copy-returns-in_ok-of_members-in-Object
copy-returns-in_ok-of_members-in-Object t c =
    let same : members_view c.deref.result.now.pairs ≡ members_view c.in-Object.members.value.pairs = search rules in
    c.in_ok-of_members-in-Object.ensures ∙ ap object (c.in_ok-copy_members-in-Object.ensures ∙ same)
    ∙ sym (ap view c.in-Object.is ∙ view-Object c.in-Object.members)

pub copy_members-loop-name-preserved : goal.copy_members-loop-name-preserved
copy_members-loop-name-preserved t c =
    let l = c.loop-name in
    let done = l.invariant.0 in
    let e : Entry = (c.in-Some.name.now, c.in-Some.member.now) in
    let left = c.next.new.self in
    let pairs = c.args.members.now.pairs in
    let all : pairs ≡ done ++ e ∷ left = l.invariant.1 ∙ ap (λ es. done ++ es) c.in-Some.ensures.steps in
    let next : pairs ≡ (done ++ e ∷ []) ++ left = all ∙ sym (append_assoc done (e ∷ []) left) in
    let distinct = subst (λ (es : List Entry). IsDistinct string_eq (keys_of es)) all c.iter-name-items.ensures.valid.distinct in
    let v = c.in_ok-copy.field-0 in
    let name = c.in_ok-name.name in
    let named : string_bytes name ≡ string_bytes e.0 = c.in_ok-name.ensures.cases in (
      done ++ e ∷ [],
      next,
      ap members_view c.in_ok-replace.ensures.pairs ∙ members_view-put l.copies.pairs name v c.replace.ensures.valid.distinct
          ∙ ap (λ n. put n (view v) (members_view l.copies.pairs)) named
          ∙ ap (λ j. put (string_bytes e.0) j (members_view l.copies.pairs)) c.in_ok-copy.ensures
          ∙ ap (put (string_bytes e.0) (view e.1)) l.invariant.2 ∙ members_view-next done e left distinct,
      values_of (done ++ e ∷ []),
      ap values_of next ∙ map-append (λ (p : Entry). p.1) (done ++ e ∷ []) left,
    )
