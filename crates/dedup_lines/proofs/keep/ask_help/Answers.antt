use Rattle.std.proofs.Common.{ℕ, ◌≡◌, List, [], ◌∷◌, get_or, ◌∙◌, sym, ap}
use Rattle.std.specs.{Prelude.codes, Prelude.string_bytes, Cmp.Lexicographic.bytes_decides}
use Rattle.dedup_lines.{specs.Arguments.texts, proofs.Said.texts-one}
use Rattle.dedup_lines.proofs.keep.ask_help.Goals as goal

pub returns-in-len1 : goal.returns-in-len1
returns-in-len1 c =
    let only : texts c.args.arguments.now ≡ string_bytes c.option-item.result ∷ [] =
    texts-one c.args.arguments.now c.option-item.result c.in-len1.len_at_least c.in-len1.len_below c.option-item.is in (
      λ asks. only ∙ ap (λ (text : List ℕ). text ∷ []) (sym c.as_str.ensures.value
          ∙ (bytes_decides c.as_str.result.now (codes "--help")).0 (sym c.eq.ensures ∙ asks)),
      λ is. c.eq.ensures ∙ (bytes_decides c.as_str.result.now (codes "--help")).1 (c.as_str.ensures.value
          ∙ ap (λ (words : List (List ℕ)). get_or words 0 []) (sym only ∙ is)),
    )
