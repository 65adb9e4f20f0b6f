use Rattle.linked_hash_map.proofs.Names.{ap, inl, length, sym, take, ◌-◌, ◌∙◌}
use Rattle.linked_hash_map.proofs.runs.Effects.{Defines-nothing, Defines-pop_back, no_last_is_nil, pairs-no_last, slice_get_last-contents}
use Rattle.linked_hash_map.proofs.runs.Steps.{Serves-keeps}
use Rattle.linked_hash_map.proofs.replay.pop_back.Goals as goal

pub returns-in-Some : goal.returns-in-Some
returns-in-Some g c =
    let done = c.in-Some.ensures in
    Serves-keeps done.keeps (λ start log defines. (
      slice_get_last-contents g.met.K.Eq.laws defines done.pair,
      Defines-pop_back g.met.K.Eq.laws defines c.in-Some.key
          c.in-Some.value done.pair done.pairs done.keeps.capacity done.keeps.mode,
    )) (inl done.ends_visit)

pub returns-in-None : goal.returns-in-None
returns-in-None g c =
    let done = c.in-None.ensures in let none = no_last_is_nil c.args.map.now.pairs done.pair in
    Serves-keeps done.keeps (λ start log defines. (
      pairs-no_last g.met.K.Eq.laws defines done.pair,
      Defines-nothing g.met.K.Eq.laws defines
          (done.pairs ∙ ap (λ pairs. take (length pairs - 1) pairs) none ∙ sym none)
          done.keeps.capacity done.keeps.mode,
    )) (inl done.ends_visit)
