use Rattle.std.proofs.Common.{ℕ, ◌<◌, ◌≡◌, true, get_or, length, arith, rules, ◌∙◌}
use Rattle.std.proofs.{lemmas.List.take_rest, Math.Seq.drop-length}
use Rattle.lhm_commands.{specs.Grammar.is_separator, proofs.Cuts.word_cut, proofs.Cuts.word_whole}
use Rattle.lhm_commands.proofs.grammar.split_word.Goals as goal

pub returns-then-is_space : goal.returns-then-is_space
returns-then-is_space c =
    let text = c.skip_spaces-text.result.now in
    let here : is_separator (get_or text c.loop-i.i 0) ≡ true = search rules in
    c.skip_spaces-text.ensures.words ∙ rw take_rest (word_cut text c.loop-i.i (omega arith) (omega arith) c.loop-i.invariant here)

pub returns : goal.returns
returns c =
    let text = c.skip_spaces-text.result.now in
    let some : 0 < length text = search rules in
    c.skip_spaces-text.ensures.words ∙ rw (take_rest, drop-length) (word_whole text (omega arith)
    (λ (k : ℕ) (l : k < length text). c.loop-i.invariant k (omega arith)))
