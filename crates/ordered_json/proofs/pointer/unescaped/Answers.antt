use Rattle.std.proofs.Common.{◌≡◌, [], ◌∷◌, ◌++◌, Some, option_map, string_bytes, sym, ap, ◌∙◌, append-nil, arith, rules}
use Rattle.std.proofs.lemmas.Str.Pattern.{strip_prefix_char, split_parts}
use Rattle.ordered_json.specs.Pointers.{unescape, unescape_tilde}
use Rattle.ordered_json.proofs.Parts.{in_front, unescape-cut, unescape-plain, unescape_tilde-none}
use Rattle.ordered_json.proofs.pointer.unescaped.Goals as goal

pub parts-preserved-in-Some-strip_prefix : goal.parts-preserved-in-Some-strip_prefix
unfolding lib.Utf8.encode
parts-preserved-in-Some-strip_prefix c =
    let cut = rw c.in-Some.is at (split_parts 126 c.parts.rest.now c.split_once.result c.split_once.ensures.cases (omega arith)) in
    let zero = rw c.in-Some-strip_prefix.is at (strip_prefix_char 48 c.in-Some.after.now c.strip_prefix.result
    c.strip_prefix.ensures.cases (omega arith)) in
    let name = string_bytes c.parts.name in let plain = c.in-Some.plain.now in let more = c.in-Some-strip_prefix.more.now in
    let bytes : string_bytes c.push.new.self ≡ (name ++ plain) ++ 126 ∷ [] =
    c.in_ok-push.ensures.bytes ∙ ap (λ b. b ++ 126 ∷ []) c.in_ok-push_str.ensures.bytes in (
      c.parts.invariant.0 ∙ ap (λ s. option_map (λ m. name ++ m) (unescape s)) cut.0
          ∙ unescape-cut name plain c.in-Some.after.now cut.1 ∙ ap (λ s. option_map (λ m. (name ++ plain) ++ m) (unescape_tilde s)) zero
          ∙ in_front (name ++ plain) 126 (unescape more) ∙ ap (λ b. option_map (λ m. b ++ m) (unescape more)) (sym bytes),
      search rules,
    )

pub parts-preserved : goal.parts-preserved
unfolding lib.Utf8.encode
parts-preserved c =
    let cut = rw c.in-Some.is at (split_parts 126 c.parts.rest.now c.split_once.result c.split_once.ensures.cases (omega arith)) in
    let one = rw c.in-Some-strip_prefix-2.is at (strip_prefix_char 49 c.in-Some.after.now c.strip_prefix-in_default-strip_prefix.result
    c.strip_prefix-in_default-strip_prefix.ensures.cases (omega arith)) in
    let name = string_bytes c.parts.name in let plain = c.in-Some.plain.now in let more = c.in-Some-strip_prefix-2.more.now in
    let bytes : string_bytes c.push-in-Some-strip_prefix-2.new.self ≡ (name ++ plain) ++ 47 ∷ [] =
    c.in_ok-push-2.ensures.bytes ∙ ap (λ b. b ++ 47 ∷ []) c.in_ok-push_str.ensures.bytes in (
      c.parts.invariant.0 ∙ ap (λ s. option_map (λ m. name ++ m) (unescape s)) cut.0
          ∙ unescape-cut name plain c.in-Some.after.now cut.1 ∙ ap (λ s. option_map (λ m. (name ++ plain) ++ m) (unescape_tilde s)) one
          ∙ in_front (name ++ plain) 47 (unescape more) ∙ ap (λ b. option_map (λ m. b ++ m) (unescape more)) (sym bytes),
      search rules,
    )

pub returns-in_default-strip_prefix-2-clause-none : goal.returns-in_default-strip_prefix-2-clause-none
returns-in_default-strip_prefix-2-clause-none c = λ _.
    let cut = rw c.in-Some.is at (split_parts 126 c.parts.rest.now c.split_once.result c.split_once.ensures.cases (omega arith)) in
    let name = string_bytes c.parts.name in let plain = c.in-Some.plain.now in
    let zero = rw c.in_default-strip_prefix.is at (strip_prefix_char 48 c.in-Some.after.now c.strip_prefix.result
    c.strip_prefix.ensures.cases (omega arith)) in
    let one = rw c.in_default-strip_prefix-2.is at (strip_prefix_char 49 c.in-Some.after.now c.strip_prefix-in_default-strip_prefix.result
    c.strip_prefix-in_default-strip_prefix.ensures.cases (omega arith)) in
    c.parts.invariant.0 ∙ ap (λ s. option_map (λ m. name ++ m) (unescape s)) cut.0
    ∙ unescape-cut name plain c.in-Some.after.now cut.1
    ∙ ap (option_map (λ m. (name ++ plain) ++ m)) (unescape_tilde-none c.in-Some.after.now zero one)

pub returns-clause-name : goal.returns-clause-name
returns-clause-name c =
    let lacks = rw c.in_default.is at (split_parts 126 c.parts.rest.now c.split_once.result c.split_once.ensures.cases (omega arith)) in
    let rest = c.parts.rest.now in
    c.parts.invariant.0
    ∙ ap (option_map (λ m. string_bytes c.parts.name ++ m)) (ap unescape (sym (append-nil rest)) ∙ unescape-plain rest [] lacks
    ∙ ap Some (append-nil rest))
    ∙ ap Some (sym c.in_ok-push_str-2.ensures.bytes)
