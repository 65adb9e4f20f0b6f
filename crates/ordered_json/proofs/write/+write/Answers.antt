use Rattle.std.proofs.Common.{◌≡◌, List, [], ◌∷◌, ◌++◌, string_bytes, sym, ap, ◌∙◌, subst, rules, append_assoc}
use Rattle.std.proofs.lemmas.List.{map-append}
use Rattle.std.proofs.lemmas.Result.{on_ok_weaker}
use Rattle.std.specs.List.{IsDistinct}
use Rattle.std.specs.Map.{keys_of, values_of}
use Rattle.std.specs.String.{string_eq}
use Rattle.json.specs.Json.{object, no_members}
use Rattle.json.specs.Token.{begin_object, key}
use Rattle.json.specs.Tree.{json_tokens, members_tokens}
use Rattle.ordered_json.specs.Read.{put, put_each, resolved}
use Rattle.ordered_json.specs.View.{view, members_view}
use Rattle.ordered_json.proofs.Views.{Entry, view-Object, members_view-next}
use Rattle.ordered_json.proofs.write.+write.Goals as goal

pub write-returns-in_ok-token-in-Object-clause-tokens : goal.write-returns-in_ok-token-in-Object-clause-tokens
write-returns-in_ok-token-in-Object-clause-tokens g t c =
    let before = g.W.Tokens.written c.args.out.now in
    let seen = ap view c.in-Object.is ∙ view-Object c.in-Object.members in
    let ms = members_view c.in-Object.members.value.pairs in
    let opened : g.W.Tokens.written c.token-in-Object.new.self ≡ before ++ begin_object ∷ [] = search rules in
    let same : members_view c.deref.result.now.pairs ≡ ms = search rules in
    on_ok_weaker c.write_members.result (λ written.
    written ∙ ap (λ k. g.W.Tokens.written c.token-in-Object.new.self ++ members_tokens k) same
    ∙ ap (λ ts. ts ++ members_tokens ms) opened ∙ append_assoc before (begin_object ∷ []) (members_tokens ms)
    ∙ ap (λ j. before ++ json_tokens j) (sym seen)) c.write_members.ensures.tokens

pub write-returns-in_ok-token-in-Object-clause-resolved : goal.write-returns-in_ok-token-in-Object-clause-resolved
write-returns-in_ok-token-in-Object-clause-resolved g t c =
    let seen = ap view c.in-Object.is ∙ view-Object c.in-Object.members in
    let same : members_view c.deref.result.now.pairs ≡ members_view c.in-Object.members.value.pairs = search rules in
    on_ok_weaker c.write_members.result (λ once.
    ap resolved seen ∙ ap object (subst (λ ms. put_each ms no_members ≡ ms) same once) ∙ sym seen) c.write_members.ensures.resolved

pub write_members-loop-name-preserved : goal.write_members-loop-name-preserved
write_members-loop-name-preserved g t c =
    let l = c.loop-name in
    let done = l.invariant.0 in
    let e : Entry = (c.in-Some.name.now, c.in-Some.member.now) in
    let left = c.next.new.self in
    let pairs = c.args.members.now.pairs in
    let steps = c.in-Some.ensures.steps in
    let all : pairs ≡ done ++ e ∷ left = l.invariant.1 ∙ ap (λ es. done ++ es) steps in
    let next : pairs ≡ (done ++ e ∷ []) ++ left = all ∙ sym (append_assoc done (e ∷ []) left) in
    let distinct = subst (λ (es : List Entry). IsDistinct string_eq (keys_of es)) all c.iter-name-items.ensures.valid.distinct in
    let before = g.W.Tokens.written l.out in
    let named : g.W.Tokens.written c.token.new.self ≡ before ++ key (string_bytes e.0) ∷ [] = search rules in
    let rest = members_tokens (members_view left) in (
      done ++ e ∷ [],
      next,
      ap (λ ts. ts ++ rest) c.in_ok-write.ensures.tokens ∙ append_assoc (g.W.Tokens.written c.token.new.self) (json_tokens (view e.1)) rest
          ∙ ap (λ ts. ts ++ (json_tokens (view e.1) ++ rest)) named
          ∙ append_assoc before (key (string_bytes e.0) ∷ []) (json_tokens (view e.1) ++ rest)
          ∙ ap (λ es. before ++ members_tokens (members_view es)) (sym steps) ∙ l.invariant.2,
      l.invariant.3 ∙ ap (λ es. put_each (members_view es) (members_view done)) steps
          ∙ ap (λ j. put_each (members_view left) (put (string_bytes e.0) j (members_view done))) c.in_ok-write.ensures.resolved
          ∙ ap (put_each (members_view left)) (members_view-next done e left distinct),
      values_of (done ++ e ∷ []),
      ap values_of next ∙ map-append (λ (p : Entry). p.1) (done ++ e ∷ []) left,
    )
