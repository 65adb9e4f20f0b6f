use Rattle.linked_hash_map.proofs.{Names.inl, runs.Effects.Defines-remove_all, runs.Steps.Serves-keeps}
use Rattle.linked_hash_map.proofs.replay.clear.Goals as goal

pub returns : goal.returns
returns g c =
    let done = c.clear.ensures in
    Serves-keeps done.keeps (λ start log defines. (
      tt,
      Defines-remove_all g.met.K.Eq.laws defines done.pairs done.keeps.capacity done.keeps.mode,
    )) (inl done.ends_visit)
