use Rattle.linked_hash_map.specs.declared.replay.Command.TheVariants.{Write, Refresh, Remove}
use Rattle.linked_hash_map.proofs.Callers.Prelude.{rules, ◌∷◌, [], refl, replayed_never_refused}
use Rattle.uses.proofs.replaying.write_refresh_remove.Goals as goal

pub returns-in-Ok : goal.returns-in-Ok
returns-in-Ok g c = let a = c.args in let is = c.in-Ok.ensures in let told =
    replayed_never_refused g.met.K.Eq.laws (Write a.pair.0 a.pair.1 ∷ Refresh a.used
    ∷ Remove a.gone ∷ []) is.valid is.replayed (search rules) refl in assumption
