use Rattle.std.proofs.Common.{◌≡◌, ◌<◌, [], length, None, option_and_then, sym, ap, ◌∙◌, arith, rules}
use Rattle.std.proofs.lemmas.Str.Pattern.{strip_prefix_char, split_parts}
use Rattle.ordered_json.specs.Pointers.{get_at, names_after}
use Rattle.ordered_json.specs.View.{view}
use Rattle.ordered_json.proofs.Parts.{get_at-names_cut, get_at-names_last, names-none}
use Rattle.ordered_json.proofs.value.Value.pointer.Goals as goal

pub returns-in_err-rest : goal.returns-in_err-rest
returns-in_err-rest c =
    let pointer = c.args.pointer.now in
    let gone : c.from_residual.result ≡ None = grind arith in
    let some : 0 < length pointer = grind arith in
    let other = rw c.in_err-rest.was at (strip_prefix_char 47 pointer c.strip_prefix.result c.strip_prefix.ensures.cases (omega arith)) in
    rw gone (sym (ap (option_and_then (λ path. get_at path (view c.args.self.now))) (names-none pointer some other)))

pub returns-in_err-target : goal.returns-in_err-target
returns-in_err-target c =
    let l = c.parts in let j = view l.target.now in
    let cut = rw c.in-Some.is at (split_parts 47 l.rest.now c.split_once.result c.split_once.ensures.cases (omega arith)) in
    let gone : c.from_residual-in_err-target.result ≡ None = grind arith in
    let turn = l.invariant.0 ∙ ap (λ s. option_and_then (λ path. get_at path j) (names_after [] s)) cut.0
    ∙ get_at-names_cut c.in-Some.part.now c.in-Some.more.now j cut.1 in
    rw gone (sym (turn ∙ ap (option_and_then (λ k. option_and_then (λ path. get_at path k) (names_after [] c.in-Some.more.now)))
    (sym c.in_err-target.ensures)))

pub parts-preserved : goal.parts-preserved
parts-preserved c =
    let l = c.parts in let j = view l.target.now in
    let cut = rw c.in-Some.is at (split_parts 47 l.rest.now c.split_once.result c.split_once.ensures.cases (omega arith)) in
    let turn = l.invariant.0 ∙ ap (λ s. option_and_then (λ path. get_at path j) (names_after [] s)) cut.0
    ∙ get_at-names_cut c.in-Some.part.now c.in-Some.more.now j cut.1 in (
      turn ∙ ap (option_and_then (λ k. option_and_then (λ path. get_at path k) (names_after [] c.in-Some.more.now)))
          (sym c.in_ok-target.ensures),
      search rules,
    )

pub returns : goal.returns
returns c =
    let l = c.parts in
    let lacks = rw c.in_default.is at (split_parts 47 l.rest.now c.split_once.result c.split_once.ensures.cases (omega arith)) in
    c.step-2.ensures ∙ sym (l.invariant.0 ∙ get_at-names_last l.rest.now (view l.target.now) lacks)
