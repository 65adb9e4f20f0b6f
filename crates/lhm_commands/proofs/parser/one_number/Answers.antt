use Rattle.std.proofs.{Common.ℕ, Common.[], Common.◌∷◌, lemmas.Result.err_from_is_err_and}
use Rattle.lhm_commands.specs.{Grammar.words_of, Commands.SpellNumbers}
use Rattle.lhm_commands.proofs.Words.{SpellNumbers-cons, SpellNumbers-rest, StartWithNumber-first}
use Rattle.lhm_commands.proofs.parser.one_number.Goals as goal

pub returns-in_err-n-clause-err : goal.returns-in_err-n-clause-err
returns-in_err-n-clause-err c =
    let p = err_from_is_err_and c.from_residual.result c.from_residual.ensures.1 in
    rw p.1 (λ (n : ℕ) (spell : SpellNumbers (words_of c.args.rest.now) (n ∷ [])).
    let first = StartWithNumber-first _ n [] spell in
    c.in_err-n.ensures.err n first.0 first.1)

pub returns-in_err-no_number-clause-err : goal.returns-in_err-no_number-clause-err
returns-in_err-no_number-clause-err c =
    let p = err_from_is_err_and c.from_residual-in_err-no_number.result c.from_residual-in_err-no_number.ensures.1 in
    rw p.1 (λ (n : ℕ) (spell : SpellNumbers (words_of c.args.rest.now) (n ∷ [])).
    c.in_err-no_number.ensures.err (SpellNumbers-rest _ _ _ n [] c.in_ok-n.ensures.ok spell))

pub returns-clause-ok : goal.returns-clause-ok
returns-clause-ok c = SpellNumbers-cons _ _ _ [] c.in_ok-n.ensures.ok c.in_ok-no_number.ensures.ok
