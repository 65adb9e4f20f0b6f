use Rattle.std.proofs.{Common.ℕ, Common.[], Common.◌∷◌, lemmas.Result.err_from_is_err_and}
use Rattle.lhm_commands.specs.{Grammar.words_of, Commands.SpellNumbers}
use Rattle.lhm_commands.proofs.Words.{SpellNumbers-cons, SpellNumbers-rest, StartWithNumber-first}
use Rattle.lhm_commands.proofs.parser.two_numbers.Goals as goal

pub returns-in_err-k-clause-err : goal.returns-in_err-k-clause-err
returns-in_err-k-clause-err c =
    let p = err_from_is_err_and c.from_residual.result c.from_residual.ensures.1 in
    rw p.1 (λ (k v : ℕ) (spell : SpellNumbers (words_of c.args.rest.now) (k ∷ v ∷ [])).
    let first = StartWithNumber-first _ k (v ∷ []) spell in
    c.in_err-k.ensures.err k first.0 first.1)

pub returns-in_err-v-clause-err : goal.returns-in_err-v-clause-err
returns-in_err-v-clause-err c =
    let p = err_from_is_err_and c.from_residual-in_err-v.result c.from_residual-in_err-v.ensures.1 in
    rw p.1 (λ (k v : ℕ) (spell : SpellNumbers (words_of c.args.rest.now) (k ∷ v ∷ [])).
    c.in_err-v.ensures.err v (SpellNumbers-rest _ _ _ k (v ∷ []) c.in_ok-k.ensures.ok spell))

pub returns-clause-ok : goal.returns-clause-ok
returns-clause-ok c = SpellNumbers-cons _ _ _ (c.in_ok-v.v ∷ []) c.in_ok-k.ensures.ok c.in_ok-v.ensures.ok
