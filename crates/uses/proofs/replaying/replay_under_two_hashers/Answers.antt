use Rattle.linked_hash_map.proofs.Callers.TwoRuns.{runs_alike}
use Rattle.uses.proofs.replaying.replay_under_two_hashers.Goals as goal

pub returns : goal.returns
returns g c = let one = c.replay-one.ensures in let other = c.replay-other.ensures in
    let met = c.requires in let told = runs_alike g.met.K.Eq.laws _ _ _ _ _ _
    met.same_pairs met.same_mode met.same_commands one.replayed other.replayed in assumption
