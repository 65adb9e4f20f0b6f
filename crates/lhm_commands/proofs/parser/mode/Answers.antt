use Rattle.std.proofs.Common.{◌∷◌, ap₂, ◌∙◌}
use Rattle.lhm_commands.proofs.Words.{SpellNumbers-nil}
use Rattle.lhm_commands.proofs.parser.mode.Goals as goal

pub returns-in-Some-mode_of-clause-ok : goal.returns-in-Some-mode_of-clause-ok
returns-in-Some-mode_of-clause-ok c =
    let none = SpellNumbers-nil _ c.in_ok-no_number.ensures.ok in
    c.in-Some.ensures ∙ ap₂ (λ word words. word ∷ words) c.in-Some-mode_of.ensures.known none
