use Rattle.std.proofs.Common.{◌≡◌, ◌<◌, [], ◌∷◌, ◌++◌, map, length, None, Some, option_map, option_and_then, string_bytes, sym}
use Rattle.std.proofs.Common.{ap, ◌∙◌, arith, rules}
use Rattle.std.proofs.lemmas.List.{map-append}
use Rattle.std.proofs.lemmas.Str.Pattern.{strip_prefix_char, split_parts}
use Rattle.ordered_json.specs.Pointers.{names_after, unescape}
use Rattle.ordered_json.proofs.Parts.{in_front, names_after-cut, names_after-last, names-none}
use Rattle.ordered_json.proofs.pointer.names_of.Goals as goal

pub returns-in_default-clause-none : goal.returns-in_default-clause-none
returns-in_default-clause-none c = λ _.
    let some : 0 < length c.args.pointer.now = grind arith in
    names-none c.args.pointer.now some
    (rw c.in_default.is at (strip_prefix_char 47 c.args.pointer.now c.strip_prefix.result c.strip_prefix.ensures.cases (omega arith)))

pub returns-in_err-unescaped-clause-none : goal.returns-in_err-unescaped-clause-none
returns-in_err-unescaped-clause-none c = λ is.
    let cut = rw c.in-Some-split_once.is at (split_parts 47 c.parts.rest.now c.split_once.result c.split_once.ensures.cases
    (omega arith)) in
    let before = map string_bytes c.parts.found.items in let part = c.in-Some-split_once.part.now in let more =
    c.in-Some-split_once.more.now in
    let none : unescape part ≡ None = c.unescaped.ensures.none (grind (arith, is)) in
    c.parts.invariant.0 ∙ ap (λ s. option_map (λ m. before ++ m) (names_after [] s)) cut.0
    ∙ ap (option_map (λ m. before ++ m)) (names_after-cut part more cut.1
    ∙ ap (option_and_then (λ name. option_map (λ ns. name ∷ ns) (names_after [] more))) none)

pub parts-preserved : goal.parts-preserved
parts-preserved c =
    let cut = rw c.in-Some-split_once.is at (split_parts 47 c.parts.rest.now c.split_once.result c.split_once.ensures.cases
    (omega arith)) in
    let before = map string_bytes c.parts.found.items in let part = c.in-Some-split_once.part.now in let more =
    c.in-Some-split_once.more.now in
    let name = c.in_ok-unescaped.field-0 in
    let all : map string_bytes c.push.new.self.items ≡ before ++ string_bytes name ∷ [] =
    ap (map string_bytes) c.in_ok-push.ensures.items ∙ map-append string_bytes c.parts.found.items (name ∷ []) in (
      c.parts.invariant.0 ∙ ap (λ s. option_map (λ m. before ++ m) (names_after [] s)) cut.0
          ∙ ap (option_map (λ m. before ++ m)) (names_after-cut part more cut.1
          ∙ ap (option_and_then (λ n. option_map (λ ns. n ∷ ns) (names_after [] more))) c.in_ok-unescaped.ensures.name)
          ∙ in_front before (string_bytes name) (names_after [] more)
          ∙ ap (λ ns. option_map (λ m. ns ++ m) (names_after [] more)) (sym all),
      search rules,
    )

pub returns-in_err-unescaped-2-clause-none : goal.returns-in_err-unescaped-2-clause-none
returns-in_err-unescaped-2-clause-none c = λ is.
    let lacks = rw c.in_default-split_once.is at (split_parts 47 c.parts.rest.now c.split_once.result c.split_once.ensures.cases
    (omega arith)) in
    let before = map string_bytes c.parts.found.items in let rest = c.parts.rest.now in
    let none : unescape rest ≡ None = c.unescaped-2.ensures.none (grind (arith, is)) in
    c.parts.invariant.0
    ∙ ap (option_map (λ m. before ++ m)) (names_after-last rest lacks ∙ ap (option_map (λ name. name ∷ [])) none)

pub returns-clause-names : goal.returns-clause-names
returns-clause-names c =
    let lacks = rw c.in_default-split_once.is at (split_parts 47 c.parts.rest.now c.split_once.result c.split_once.ensures.cases
    (omega arith)) in
    let before = map string_bytes c.parts.found.items in let rest = c.parts.rest.now in
    let name = c.in_ok-unescaped-2.field-0 in
    let all : map string_bytes c.push-2.new.self.items ≡ before ++ string_bytes name ∷ [] =
    ap (map string_bytes) c.in_ok-push-2.ensures.items ∙ map-append string_bytes c.parts.found.items (name ∷ []) in
    c.parts.invariant.0
    ∙ ap (option_map (λ m. before ++ m)) (names_after-last rest lacks ∙ ap (option_map (λ n. n ∷ [])) c.in_ok-unescaped-2.ensures.name)
    ∙ ap Some (sym all)
