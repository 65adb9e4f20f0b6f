use Rattle.std.proofs.Common.{ℕ, ◌<◌, ◌≤◌, ◌≡◌, ◌+◌, ◌*◌, ◌^◌, length, get_or, arith, rules, ◌∙◌}
use Rattle.std.{specs.Int.IsInRange, specs.Str.Parse.digits_value, proofs.lemmas.Grind.common_steps}
use Rattle.lhm_commands.proofs.Numbers.{no_digit, one_more, too_large, whole}
use borrow.Author.Count.{below_more}
use Rattle.lhm_commands.proofs.grammar.number.Goals as goal

pub returns-then-not-is_ascii_digit : goal.returns-then-not-is_ascii_digit
returns-then-not-is_ascii_digit c = no_digit c.args.word.now c.loop-byte.byte-index (omega arith) (search rules)

pub returns-in_default : goal.returns-in_default
returns-in_default c =
    let word = c.args.word.now in
    let i = c.loop-byte.byte-index in
    let here : IsInRange 48 57 (get_or word i 0) = search rules in
    let d : c.from-digit.result + 48 ≡ get_or word i 0 = search rules in
    let big : 2 ^ 64 ≤ c.loop-byte.value * 10 + c.from-digit.result = grind (arith, common_steps) in
    too_large word i (c.loop-byte.value * 10 + c.from-digit.result)
    (one_more word i c.loop-byte.value c.from-digit.result (omega arith) here d c.loop-byte.invariant.value_so_far) big

pub returns-in_default-checked_add : goal.returns-in_default-checked_add
returns-in_default-checked_add c =
    let word = c.args.word.now in
    let i = c.loop-byte.byte-index in
    let here : IsInRange 48 57 (get_or word i 0) = search rules in
    let d : c.from-digit.result + 48 ≡ get_or word i 0 = search rules in
    let big : 2 ^ 64 ≤ c.loop-byte.value * 10 + c.from-digit.result = grind (arith, common_steps) in
    too_large word i (c.loop-byte.value * 10 + c.from-digit.result)
    (one_more word i c.loop-byte.value c.from-digit.result (omega arith) here d c.loop-byte.invariant.value_so_far) big

pub loop-byte-preserved : goal.loop-byte-preserved
loop-byte-preserved c =
    let word = c.args.word.now in
    let i = c.loop-byte.byte-index in
    let here : IsInRange 48 57 (get_or word i 0) = search rules in
    let d : c.from-digit.result + 48 ≡ get_or word i 0 = search rules in
    let next : c.in-Some-checked_add.next ≡ c.loop-byte.value * 10 + c.from-digit.result = grind (arith, common_steps) in
    record {
      digits = below_more (λ (k : ℕ). IsInRange 48 57 (get_or word k 0)) i c.loop-byte.invariant.digits here;
      value_so_far = next ∙ one_more word i c.loop-byte.value c.from-digit.result (omega arith) here d c.loop-byte.invariant.value_so_far;
      fits = grind (arith, common_steps);
    }

pub returns : goal.returns
returns c =
    let word = c.args.word.now in
    let some : 0 < length word = search rules in
    let all : c.loop-byte.value ≡ digits_value 10 word = grind (arith, common_steps) in
    let digits = λ (k : ℕ) (l : k < length word). c.loop-byte.invariant.digits k (omega arith) in
    whole word c.loop-byte.value some digits all c.loop-byte.invariant.fits
