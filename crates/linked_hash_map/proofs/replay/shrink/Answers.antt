use Rattle.linked_hash_map.proofs.Names.{ap, arith, inl, refl, sym, ◌∙◌, rechained_fitted}
use Rattle.linked_hash_map.proofs.runs.{Effects.Defines-shrink, Effects.size-contents, Steps.Serves-unchanged}
use Rattle.linked_hash_map.proofs.replay.shrink.Goals as goal

pub returns-in-Ok : goal.returns-in-Ok
returns-in-Ok g c =
    let done = c.in-Ok.ensures in
    record {
      answers = λ start log defines. tt;
      defines = λ start log defines. Defines-shrink g.met.K.Eq.laws defines done.pairs done.capacity done.settings.mode;
      hasher = done.settings.hasher;
      rechained = done.rechained ∙ ap (λ n. rechained_fitted c.args.map.now.rechained n c.args.map.now.capacity) (sym done.capacity);
      visit = inl done.ends_visit;
    }

pub returns-in-Err : goal.returns-in-Err
returns-in-Err g c =
    let refused = c.in-Err.ensures in
    Serves-unchanged g.met.K.Eq.laws refused.unchanged (λ log. refl) (λ start log defines.
    let size_is = size-contents g.met.K.Eq.laws defines in
    let high_water = defines.same_capacity in let some = refused.some in
    let spare = refused.spare in
    (omega arith, omega arith))
