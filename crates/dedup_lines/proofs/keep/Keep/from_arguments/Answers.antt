use Rattle.std.proofs.Common.{ℕ, ◌≡◌, ◌<◌, ◌^◌, List, [], ◌∷◌, ◌∙◌, sym, ap, subst}
use Rattle.std.specs.{Prelude.codes, Prelude.string_bytes, Cmp.Lexicographic.bytes_decides}
use Rattle.dedup_lines.specs.Arguments.{SayNothing, SpellsNumber}
use Rattle.dedup_lines.proofs.Said.{texts-one, texts-two, SayNothing-number}
use Rattle.dedup_lines.proofs.keep.Keep.from_arguments.Goals as goal

pub returns-in-len1 : goal.returns-in-len1
returns-in-len1 c =
    let option : string_bytes c.option-item.result ≡ codes "--last" =
    sym c.as_str.ensures.value ∙ (bytes_decides c.as_str.result.now (codes "--last")).0 (sym c.eq.ensures ∙ c.if-eq.true) in
    texts-one c.args.arguments.now c.option-item.result c.in-len1.len_at_least c.in-len1.len_below c.option-item.is
    ∙ ap (λ (text : List ℕ). text ∷ []) option

pub returns-in-Ok : goal.returns-in-Ok
returns-in-Ok c =
    let option : string_bytes c.option-item-then-arguments-lt3.result ≡ codes "--window" =
    sym c.as_str-then-arguments-lt3.ensures.value
    ∙ (bytes_decides c.as_str-then-arguments-lt3.result.now (codes "--window")).0 (sym c.eq-then-arguments-lt3.ensures
    ∙ c.if-eq-2.true) in (
      string_bytes c.size-item.result,
      texts-two c.args.arguments.now c.option-item-then-arguments-lt3.result c.size-item.result c.in-len2.len_at_least
          c.in-len2.len_below c.option-item-then-arguments-lt3.is c.size-item.is
          ∙ ap (λ (text : List ℕ). text ∷ string_bytes c.size-item.result ∷ []) option,
      subst (λ (text : List ℕ). SpellsNumber text c.in-Ok.size) c.deref.ensures (record {
        digits = c.in-Ok.ensures.value.0.0.0;
        value = sym c.in-Ok.ensures.value.0.1;
        fits = subst (λ (m : ℕ). m < 2 ^ 64) (sym c.in-Ok.ensures.value.0.1) c.in-Ok.ensures.value.0.0.1;
      }),
    )

pub returns-in-Err : goal.returns-in-Err
returns-in-Err c =
    subst SayNothing
    (sym (texts-two c.args.arguments.now c.option-item-then-arguments-lt3.result c.size-item.result c.in-len2.len_at_least
    c.in-len2.len_below c.option-item-then-arguments-lt3.is c.size-item.is))
    (SayNothing-number _ _ (rw c.deref.ensures at c.in-Err.ensures.value.0))
