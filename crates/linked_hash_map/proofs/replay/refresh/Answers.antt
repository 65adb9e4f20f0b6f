use Rattle.linked_hash_map.proofs.{Names.inl, Names.refl, Names.sym, runs.Effects.Defines-refresh, runs.Effects.HasValue-value}
use Rattle.linked_hash_map.proofs.{runs.Effects.IsAbsent-value, runs.Steps.Serves-keeps, runs.Steps.Serves-unchanged}
use Rattle.linked_hash_map.proofs.replay.refresh.Goals as goal

pub returns-in-Some : goal.returns-in-Some
returns-in-Some g c =
    let found = c.in-Some.ensures.value in
    Serves-keeps (record { capacity = refl; rechained = refl; hasher = refl; mode = refl }) (λ start log defines. (
      (HasValue-value g.met.K.Eq.laws defines c.args.key (sym found)).0,
      Defines-refresh g.met.K.Eq.laws defines c.args.key c.in-Some.field-0.now found refl refl refl,
    )) (inl refl)

pub returns : goal.returns
returns g c = Serves-unchanged g.met.K.Eq.laws refl (λ log. refl)
    (λ start log defines. IsAbsent-value g.met.K.Eq.laws defines c.args.key (sym c.in-None.ensures.value))
