use Rattle.std.proofs.Common.{◌≡◌, ◌+◌, ◌*◌, ◌-◌, None, cond, drop, get_or, option_map, ap, sym, ◌∙◌, arith}
use Rattle.std.proofs.lemmas.List.{drop_more}
use Rattle.ordered_json.specs.Pointers.{number_after}
use Rattle.ordered_json.proofs.Children.{capped, number_after-capped}
use Rattle.ordered_json.proofs.pointer.number_of.Goals as goal

pub loop-byte-preserved : goal.loop-byte-preserved
loop-byte-preserved c =
    let l = c.loop-byte in let bytes = c.args.bytes.now in let x = get_or bytes l.byte-index 0 in
    let rest = drop (l.byte-index + 1) bytes in
    let turn : number_after l.number (drop l.byte-index bytes) ≡ number_after (l.number * 10 + (x - 48)) rest =
    ap (number_after l.number) (drop_more bytes l.byte-index 0 c.loop-byte-test.true)
    ∙ ap (λ b. cond b (number_after (l.number * 10 + (x - 48)) rest) None)
    (sym c.is_ascii_digit.ensures.value ∙ c.if-not-is_ascii_digit.false) in (
      number_after-capped c.saturating_add-number.result (l.number * 10 + (x - 48)) rest
          (omega (arith, c.saturating_add-number.ensures, c.saturating_mul.ensures))
          ∙ sym (ap (option_map capped) turn) ∙ l.invariant.0,
      omega (arith, c.saturating_add-number.ensures),
    )
