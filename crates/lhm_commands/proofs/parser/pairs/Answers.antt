use Rattle.std.proofs.{Common.ℕ, Common.List, Common.◌∷◌, Common.[], Common.append_assoc, Common.arith, lemmas.List.append-nil}
use Rattle.lhm_commands.specs.{Grammar.words_of, Commands.SpellNumbers, Commands.numbers_of}
use Rattle.lhm_commands.proofs.Words.{words-some, StartWithNumber-split, SpellsNumber-split, StartWithNumber-pairs, StartWithNumber-second}
use Rattle.lhm_commands.proofs.Words.{SpellNumbers-cons, numbers_of-left, length-after}
use Rattle.lhm_commands.proofs.parser.pairs.Goals as goal

pub loop-word-init : goal.loop-word-init
loop-word-init c = rw c.new-pairs.ensures.items (record {
  spell = λ others spell. spell;
  spelled = λ others spell. (others, spell);
})

pub returns-in_err-k-clause-err : goal.returns-in_err-k-clause-err
returns-in_err-k-clause-err c refused pairs spell =
    let left = c.loop-word.invariant.spelled pairs spell in
    let first = StartWithNumber-pairs (words_of c.loop-word.rest.now) left.0 (words-some _ _ _ c.in-Some.ensures) left.1 in
    c.in_err-k.ensures.err first.0 (SpellsNumber-split _ _ _ c.in-Some.ensures first.0 first.1 first.2)

pub returns-in_err-v-clause-err : goal.returns-in_err-v-clause-err
returns-in_err-v-clause-err c refused pairs spell =
    let left = c.loop-word.invariant.spelled pairs spell in
    let first = StartWithNumber-split _ _ _ c.in-Some.ensures c.in_ok-k.k c.in_ok-k.ensures.ok in
    let second = StartWithNumber-second _ _ c.in_ok-k.k left.0 (words-some _ _ _ c.in-Some.ensures) first left.1 in
    c.in_err-v.ensures.err second.0 second.1 second.2

pub loop-word-smaller : goal.loop-word-smaller
loop-word-smaller c =
    let first = length-after _ _ c.in_ok-k.k (StartWithNumber-split _ _ _ c.in-Some.ensures c.in_ok-k.k c.in_ok-k.ensures.ok) in
    let second = length-after _ _ c.in_ok-v.v c.in_ok-v.ensures.ok in
    omega (arith, first, second)

pub loop-word-preserved : goal.loop-word-preserved
loop-word-preserved c =
    let first = StartWithNumber-split _ _ _ c.in-Some.ensures c.in_ok-k.k c.in_ok-k.ensures.ok in
    record {
      spell = λ (others : List (ℕ × ℕ)) (spell : SpellNumbers (words_of c.in_ok-v.after.now) (numbers_of others)).
          let second = SpellNumbers-cons _ _ c.in_ok-v.v (numbers_of others) c.in_ok-v.ensures.ok spell in
          let both = SpellNumbers-cons _ _ c.in_ok-k.k (c.in_ok-v.v ∷ numbers_of others) first second in
          rw (c.in_ok-push.ensures.items, append_assoc) (c.loop-word.invariant.spell ((c.in_ok-k.k, c.in_ok-v.v) ∷ others) both);
      spelled = λ (others : List (ℕ × ℕ)) (spell : SpellNumbers (words_of c.args.rest.now) (numbers_of others)).
          let left = c.loop-word.invariant.spelled others spell in
          numbers_of-left _ _ c.in_ok-k.k c.in_ok-v.v left.0 (words-some _ _ _ c.in-Some.ensures) first c.in_ok-v.ensures.ok left.1;
    }

pub returns-clause-ok : goal.returns-clause-ok
returns-clause-ok c =
    let nothing : SpellNumbers (words_of c.loop-word.rest.now) [] = rw c.in_default.ensures tt in
    rw append-nil at (c.loop-word.invariant.spell [] nothing)
