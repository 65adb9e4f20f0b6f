use Rattle.linked_hash_map.specs.declared.replay.Command.TheVariants.{Insert}
use Rattle.linked_hash_map.proofs.Callers.Prelude.{rules, ◌∷◌, [], refl, NoneRefused-inserted}
use Rattle.uses.proofs.replaying.insert_two.Goals as goal

pub returns-in-Ok : goal.returns-in-Ok
returns-in-Ok g c = λ longer. let a = c.args in let is = c.in-Ok.ensures in
    NoneRefused-inserted g.met.K.Eq.laws (Insert a.one.0 a.one.1 ∷ Insert a.other.0 a.other.1 ∷ [])
    is.valid is.replayed (search rules) refl longer
