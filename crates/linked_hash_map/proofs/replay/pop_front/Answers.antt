use Rattle.linked_hash_map.proofs.{Names.inl, runs.Effects.Defines-pop_front, runs.Effects.slice_get-contents, runs.Steps.Serves-keeps}
use Rattle.linked_hash_map.proofs.replay.pop_front.Goals as goal

pub returns-in-Some : goal.returns-in-Some
returns-in-Some g c =
    let done = c.in-Some.ensures in
    Serves-keeps done.keeps (λ start log defines. (
      slice_get-contents g.met.K.Eq.laws defines 0 done.pair,
      Defines-pop_front g.met.K.Eq.laws defines c.in-Some.key
          c.in-Some.value done.pair done.pairs done.keeps.capacity done.keeps.mode,
    )) (inl done.ends_visit)
